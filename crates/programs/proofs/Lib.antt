pub mod Filling
pub mod Alone
