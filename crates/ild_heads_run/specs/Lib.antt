pub mod Says
pub mod Ends
pub mod Runs
pub mod inside
