pub mod Names
pub mod Book
pub mod BookOf
pub mod Format
pub mod Spelling
pub mod Reading
pub mod Taking
