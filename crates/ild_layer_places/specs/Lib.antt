pub mod Ending
pub mod Places
pub mod Refusing
