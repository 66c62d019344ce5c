pub mod Parts
pub mod Seen
pub mod Epochs
pub mod Standing
