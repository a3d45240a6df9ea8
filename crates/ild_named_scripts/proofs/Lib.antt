pub mod Testing
pub mod Rooms
pub mod Scripting
pub mod Adding
pub mod Maying
mod Putting
mod Placing
mod Leading
