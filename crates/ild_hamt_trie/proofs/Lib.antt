pub mod Parts
pub mod Slots
pub mod Index
pub mod Fold
pub mod Node
pub mod Beneath
pub mod Bits
pub mod Orders
pub mod Way
pub mod Gather
pub mod Exhaust
pub mod Walk
pub mod Climb
pub mod Pairs
mod Examples
pub mod Levels
