pub mod Keeps
pub mod Laws
pub mod Leaves
