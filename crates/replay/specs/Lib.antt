pub mod Log
pub mod Seen
