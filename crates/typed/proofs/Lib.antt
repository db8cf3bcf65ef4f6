pub mod Texts
pub mod Logs
pub mod Replies
