pub mod Cut
pub mod Pairs
pub mod Prefix
pub mod Parts
pub mod inside
