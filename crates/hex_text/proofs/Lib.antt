pub mod Tables
pub mod Written
pub mod Read
pub mod Samples
