pub mod Chunks
pub mod Sent
pub mod Answers
pub mod Outputs
pub mod Samples
