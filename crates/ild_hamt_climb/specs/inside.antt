pub mod Gathering
pub mod Elements
