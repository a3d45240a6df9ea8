pub mod Becomes
pub mod Pairs
pub mod inside
