pub mod Vectors
pub mod Comparison
