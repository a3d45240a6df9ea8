pub mod Empty
pub mod Starts
pub mod inside
