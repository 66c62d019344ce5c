pub mod Field
pub mod Laws
pub mod Prime
pub mod Sums
