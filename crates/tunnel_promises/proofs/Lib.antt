pub mod Tunnel
pub mod Writer
