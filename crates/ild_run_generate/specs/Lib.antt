pub mod Steps
pub mod Runs
pub mod Generates
pub mod Words
pub mod Text
pub mod inside
