pub mod Framing
pub mod Parting
pub mod Writing
