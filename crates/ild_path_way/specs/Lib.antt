pub mod Way
pub mod WayLaws
