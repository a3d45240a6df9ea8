pub mod Joining
pub mod Keyed
pub mod Listed
pub mod Mapped
pub mod Placed
pub mod Searching
pub mod Staying
