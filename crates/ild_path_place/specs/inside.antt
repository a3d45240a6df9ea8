pub mod Slots
pub mod Keys
pub mod Endings
pub mod Inner
pub mod Innermost
pub mod Shown
