-- The verbs, each in its own file.
pub mod Book
pub mod Audit
pub mod Certify
pub mod Check
pub mod Expect
pub mod Epochs
pub mod Generate
pub mod Make
pub mod Merge
pub mod OpenBook
pub mod Reveal
pub mod SelfTest
