mod Between
mod LeftRecords
pub mod Cells
pub mod Places
mod Outcomes
pub mod BadPlaceLaws
