pub mod Text
pub mod Output
