pub mod Gathering
pub mod Tables
