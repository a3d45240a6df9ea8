pub mod Scripts
pub mod Plainly
pub mod inside
