pub mod Decoding
pub mod Search
pub mod Sequence
pub mod Choosing
pub mod Halving
pub mod Problem
