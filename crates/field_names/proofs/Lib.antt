pub mod Laws
pub mod Samples
