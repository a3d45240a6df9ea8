pub mod Texts
pub mod Upward
pub mod inside
