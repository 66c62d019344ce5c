pub mod Counts
pub mod Poly
pub mod Vanishing
pub mod Blocks
