pub mod PlaceLaws
pub mod Replaces
pub mod inside
