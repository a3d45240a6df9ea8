pub mod Readings
pub mod inside
