pub mod Came
pub mod Runs
pub mod Cuts
pub mod Steps
