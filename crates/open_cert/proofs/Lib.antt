mod Polynomials
mod Verdicts
mod Ranges
mod Groups
mod ByPath
pub mod Complete
mod Steps
