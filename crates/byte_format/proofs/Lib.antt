pub mod Sizes
pub mod OneField
pub mod Found
pub mod Spelt
pub mod FirstEntry
pub mod Answered
