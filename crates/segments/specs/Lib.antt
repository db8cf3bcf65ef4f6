pub mod Segment
pub mod Cut
