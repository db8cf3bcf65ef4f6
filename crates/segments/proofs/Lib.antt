pub mod Heads
pub mod Checks
pub mod Places
pub mod Cut
pub mod Samples
