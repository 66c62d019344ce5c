pub mod Cells
pub mod Request
