pub mod Law
pub mod Paths
