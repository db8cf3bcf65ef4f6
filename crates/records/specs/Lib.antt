pub mod Records
pub mod Transcripts
pub mod Channels
