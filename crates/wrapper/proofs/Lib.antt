pub mod Laws
pub mod Outers
pub mod Later
pub mod Fills
pub mod Answers
pub mod Samples
