pub mod Laws
pub mod Stores
pub mod Sets
pub mod Tables
