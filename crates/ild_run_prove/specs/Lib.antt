pub mod Proved
pub mod inside
