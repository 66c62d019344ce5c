pub mod Coefficients
pub mod KeyLine
pub mod Limbs
pub mod Search
pub mod Numbers
