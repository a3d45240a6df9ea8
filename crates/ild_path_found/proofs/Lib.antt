pub mod Finding
pub mod Rooted
pub mod Siting
pub mod Walking
