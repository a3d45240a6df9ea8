pub mod Halts
pub mod Levels
pub mod Refuses
pub mod Inwards
