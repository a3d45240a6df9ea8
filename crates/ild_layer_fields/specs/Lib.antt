pub mod Causes
pub mod Entries
pub mod Notes
pub mod Pairs
pub mod Told
