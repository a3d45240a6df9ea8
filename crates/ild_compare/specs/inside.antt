pub mod Copied
pub mod Fetching
pub mod Spots
pub mod Steps
pub mod Walked
