pub mod Links
pub mod Trees
pub mod Moments
pub mod inside
