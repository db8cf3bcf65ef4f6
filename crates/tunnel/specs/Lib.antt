pub mod Outer
pub mod Unwrap
