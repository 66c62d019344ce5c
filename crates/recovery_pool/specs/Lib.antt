pub mod Answers
pub mod Shifts
pub mod Standing
pub mod Steps
pub mod Seen
