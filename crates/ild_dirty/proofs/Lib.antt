pub mod Indexed
pub mod Batching
pub mod Walking
pub mod Walked
pub mod Ordering
mod Counting
pub mod Puts
pub mod Flushing
