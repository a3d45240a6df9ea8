pub mod Meeting
pub mod Keyed
pub mod Judging
pub mod Digesting
