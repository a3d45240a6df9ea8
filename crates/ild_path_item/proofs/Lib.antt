mod Blocks
mod Changing
mod Joins
pub mod Members
pub mod Parts
mod Rewriting
mod Shorter
mod Upward
pub mod Verbs
pub mod Viewing
mod Whole
