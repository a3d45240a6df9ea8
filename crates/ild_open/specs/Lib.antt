pub mod Blocks
pub mod Broken
pub mod Loaded
pub mod Named
pub mod Opened
pub mod inside
