pub mod Naming
pub mod Refusing
pub mod Finding
pub mod Telling
pub mod Settling
