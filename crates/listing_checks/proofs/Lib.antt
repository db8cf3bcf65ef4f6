pub mod Checks
pub mod Lengths
