pub mod Argument
pub mod Grown
pub mod Simple
