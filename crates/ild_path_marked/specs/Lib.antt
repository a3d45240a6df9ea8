pub mod Tells
pub mod inside
