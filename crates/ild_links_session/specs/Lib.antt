pub mod Looks
pub mod Linked
pub mod Ready
pub mod Passes
pub mod inside
