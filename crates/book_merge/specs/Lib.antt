pub mod Records
pub mod Merging
pub mod Sums
pub mod Machines
