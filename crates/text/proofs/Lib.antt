pub mod Laws
pub mod Samples
pub mod Adds
