pub mod Packets
pub mod Stored
