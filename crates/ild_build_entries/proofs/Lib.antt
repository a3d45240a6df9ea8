pub mod Flags
pub mod Roots
pub mod Marked
