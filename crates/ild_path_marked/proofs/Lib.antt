pub mod Hexing
pub mod Inlining
pub mod Prefixing
