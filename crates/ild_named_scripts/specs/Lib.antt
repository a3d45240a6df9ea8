pub mod Tests
pub mod Scripts
pub mod Adds
pub mod Children
