mod Copying
mod Doubles
pub mod Circles
pub mod Ending
mod Keeping
pub mod Finding
mod Naming
pub mod Puts
mod Seats
pub mod Parts
mod Writing
pub mod Kinding
pub mod Passing
pub mod Ruling
pub mod Telling
pub mod Legibly
