pub mod Behind
mod Entering
mod Judging
pub mod Last
pub mod Looking
mod Stepping
