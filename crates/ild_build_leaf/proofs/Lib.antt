pub mod Ordered
pub mod Turns
