pub mod Proves
pub mod inside
