mod Filling
pub mod Keystreams
mod Opening
mod Spelt
pub mod Honest
mod Horner
