pub mod Bits
pub mod Each
pub mod Word
pub mod Same
pub mod Checks
pub mod Sets
pub mod Tables
