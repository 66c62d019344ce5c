pub mod EpochLists
pub mod AtEpoch
pub mod Taking
pub mod Sections
pub mod Telling
