pub mod Fine
pub mod Entries
