pub mod Roles
pub mod Laws
