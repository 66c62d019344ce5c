pub mod Keystream
pub mod Generator
