pub mod Last
pub mod Search
pub mod Held
