pub mod Opening
mod Parting
mod Finding
mod Handing
mod Mapped
pub mod Placing
mod Nulling
mod Implying
mod Reading
mod Fielding
pub mod Reaching
pub mod Indexing
mod Ordering
mod Tallying
mod Iterating
mod Counting
mod Entering
