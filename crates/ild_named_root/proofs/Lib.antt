pub mod Standing
pub mod Reading
pub mod Putting
pub mod Rooting
