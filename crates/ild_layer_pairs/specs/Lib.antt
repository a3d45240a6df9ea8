pub mod Shape
pub mod Judged
pub mod Apart
pub mod inside
