pub mod Block
pub mod Docs
