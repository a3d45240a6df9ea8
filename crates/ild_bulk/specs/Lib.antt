pub mod Keyed
pub mod Faults
pub mod Planned
pub mod Putting
pub mod Children
pub mod Build
pub mod Laws
