pub mod Describes
pub mod Types
pub mod Shows
pub mod Migrates
pub mod inside
