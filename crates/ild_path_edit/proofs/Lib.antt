pub mod Making
pub mod Numbering
pub mod Stepping
pub mod Viewing
