pub mod Entries
pub mod Counted
pub mod Transcripts
pub mod Filling
pub mod Channels
