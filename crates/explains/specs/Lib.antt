pub mod Explaining
pub mod Breaks
