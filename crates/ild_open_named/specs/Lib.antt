pub mod Broken
pub mod Described
pub mod Opened
pub mod inside
