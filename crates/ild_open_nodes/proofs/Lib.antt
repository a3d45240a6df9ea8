pub mod Counted
pub mod Entries
pub mod Noding
pub mod Passing
pub mod Rooting
pub mod Slotting
pub mod Splitting
pub mod Weighing
