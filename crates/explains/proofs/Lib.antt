pub mod Laws
pub mod Exactly
pub mod Segments
pub mod Chunks
pub mod Clashes
pub mod Samples
