pub mod Explains
pub mod Packed
pub mod Steps
pub mod Wraps
pub mod Guides
