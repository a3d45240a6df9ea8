pub mod Outcomes
pub mod Blocks
pub mod Putting
