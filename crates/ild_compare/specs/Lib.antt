pub mod Compared
pub mod Laws
pub mod Reached
pub mod inside
