pub mod Fields
pub mod Demands
pub mod Sentences
