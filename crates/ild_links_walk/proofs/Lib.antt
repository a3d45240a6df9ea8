pub mod Walked
pub mod Refused
pub mod Lasts
pub mod Crossings
mod Opening
