pub mod Scripting
pub mod Plainness
