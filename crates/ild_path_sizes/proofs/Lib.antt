pub mod Sizes
pub mod Longer
