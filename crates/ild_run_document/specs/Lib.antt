pub mod Null
pub mod Begins
pub mod Document
pub mod Turns
pub mod Passes
pub mod inside
