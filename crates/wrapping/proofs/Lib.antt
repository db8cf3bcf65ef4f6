pub mod Words
pub mod Outers
pub mod Calls
pub mod Laws
pub mod Last
