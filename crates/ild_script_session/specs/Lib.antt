pub mod Session
pub mod Batch
pub mod Step
pub mod Run
pub mod Stands
pub mod Plain
pub mod Lines
pub mod Puts
