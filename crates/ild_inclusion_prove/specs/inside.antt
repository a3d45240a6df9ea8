pub mod Faults
pub mod Adds
