pub mod Table
pub mod BadPlace
pub mod Left
pub mod Answer
