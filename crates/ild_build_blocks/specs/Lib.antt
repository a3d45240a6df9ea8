pub mod Builds
pub mod inside
