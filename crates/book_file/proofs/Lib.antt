pub mod Entries
pub mod Sums
pub mod BookLaws
pub mod Books
pub mod RecordBooks
pub mod Fields
pub mod Spelled
