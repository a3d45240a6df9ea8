pub mod Within
pub mod Told
pub mod Stepping
pub mod Moving
