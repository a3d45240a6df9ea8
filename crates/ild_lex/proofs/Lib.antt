pub mod Classes
pub mod Gaps
pub mod Runs
pub mod Texts
pub mod Pieces
pub mod First
pub mod Once
pub mod Slices
