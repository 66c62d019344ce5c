pub mod KeyLines
pub mod LimbLaws
pub mod LineNumbers
pub mod LineSearch
pub mod LowBytes
pub mod OnAll
