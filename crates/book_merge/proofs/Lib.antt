pub mod BookReveals
pub mod Readings
pub mod Sums
pub mod Dropped
pub mod Meaning
pub mod Orders
pub mod Machines
