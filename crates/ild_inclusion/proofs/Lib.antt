mod Mapping
mod Meeting
pub mod Single
mod Ways
mod Stepping
mod Onward
mod Rooted
mod Copied
mod Told
