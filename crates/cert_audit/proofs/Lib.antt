pub mod Ascending
pub mod CertLaws
pub mod Entries
pub mod Fronts
pub mod Sound
pub mod Spelt
pub mod Steps
pub mod Whole
