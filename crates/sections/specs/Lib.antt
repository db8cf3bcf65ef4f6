pub mod Sizes
pub mod Layout
pub mod Walks
pub mod Reading
