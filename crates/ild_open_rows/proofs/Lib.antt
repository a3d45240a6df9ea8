pub mod Given
pub mod Rooting
pub mod Trees
