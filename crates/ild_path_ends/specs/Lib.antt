pub mod Parts
pub mod Ends
pub mod Steps
pub mod Roots
pub mod inside
