pub mod Wrapping
pub mod Words
pub mod Seen
