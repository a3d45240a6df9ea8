pub mod Changed
pub mod Left
