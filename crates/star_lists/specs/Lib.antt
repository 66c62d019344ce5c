pub mod Elements
pub mod FirstOnes
pub mod Places
pub mod Ascending
pub mod Numbered
