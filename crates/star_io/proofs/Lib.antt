pub mod ByteLists
mod Calls
pub mod FrontLaws
mod KnownBytes
mod NextRecord
pub mod RecordListLaws
pub mod RecordLaws
pub mod Streams
