pub mod Segments
pub mod Laws
pub mod Fits
pub mod Under
