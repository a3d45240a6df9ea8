pub mod OfHead
pub mod Shape
pub mod Row
pub mod Passing
pub mod Search
