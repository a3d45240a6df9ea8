pub mod Way
pub mod Collapse
pub mod Walk
pub mod Laws
