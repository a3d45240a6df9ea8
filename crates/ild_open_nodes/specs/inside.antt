pub mod Beneath
pub mod Passes
