pub mod Parts
pub mod Present
pub mod Source
pub mod Told
pub mod inside
