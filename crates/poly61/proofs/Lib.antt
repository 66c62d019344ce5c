pub mod Elements
pub mod Places
pub mod Counts
pub mod Roots
mod Halves
pub mod Lists
pub mod Values
pub mod Products
pub mod PolynomialLaws
mod Convolution
