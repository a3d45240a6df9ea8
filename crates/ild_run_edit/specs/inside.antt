pub mod Judges
pub mod Moves
pub mod Roots
pub mod Swaps
