pub mod Layers
mod Records
pub mod Held
mod Around
