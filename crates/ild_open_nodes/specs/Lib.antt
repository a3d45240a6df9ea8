pub mod Nodes
pub mod Reading
pub mod Sums
pub mod Weights
pub mod inside
