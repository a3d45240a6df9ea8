pub mod Splitting
pub mod Staying
