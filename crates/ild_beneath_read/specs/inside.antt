pub mod Fields
pub mod Left
pub mod Opened
pub mod Pairs
pub mod Pushes
