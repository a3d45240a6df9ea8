pub mod Covers
pub mod Roots
pub mod Seats
