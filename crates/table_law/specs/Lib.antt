pub mod Prefixes
pub mod Fronts
pub mod Layers
pub mod Clear
pub mod Marks
pub mod Reveals
