pub mod Lengths
pub mod Entries
pub mod Tries
