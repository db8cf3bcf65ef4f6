pub mod Sent
pub mod Fed
