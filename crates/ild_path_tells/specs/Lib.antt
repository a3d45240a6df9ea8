pub mod Facts
pub mod Tells
