pub mod Generator
pub mod Layout
pub mod Place
pub mod Report
pub mod Stream
