mod Breaking
mod Climbing
pub mod Freeing
mod Held
mod Making
pub mod Quiet
mod Reaching
pub mod Texts
