pub mod Level
pub mod Outward
pub mod inside
