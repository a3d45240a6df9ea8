pub mod Counting
pub mod Starting
