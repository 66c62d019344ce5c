mod Exclusive
mod Words
pub mod StreamLaws
