mod Steps
mod Forwards
mod Counting
mod Choice
pub mod Decoded
pub mod Finding
pub mod Search
mod Rows
