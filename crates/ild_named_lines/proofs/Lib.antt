pub mod Cuts
pub mod Scripts
pub mod Texts
pub mod Readings
