pub mod Escape
pub mod Names
pub mod Paths
pub mod RevealText
