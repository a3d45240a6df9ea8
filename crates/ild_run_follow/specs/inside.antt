pub mod Faults
pub mod Enters
pub mod Rooms
