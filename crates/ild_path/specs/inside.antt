pub mod Pieces
pub mod Replaced
