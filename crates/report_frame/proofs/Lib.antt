pub mod VersionFacts
mod Lengths
pub mod Frames
pub mod FrameLaws
mod Views
