pub mod Line
pub mod Compile
