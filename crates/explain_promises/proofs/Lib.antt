pub mod Exactly
pub mod Explain
