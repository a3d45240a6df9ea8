pub mod Settings
pub mod Turning
mod Batched
pub mod Sessions
