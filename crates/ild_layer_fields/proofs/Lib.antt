pub mod Causing
pub mod Marking
pub mod Noting
pub mod Pairing
pub mod Placing
pub mod Surveying
pub mod Telling
pub mod Texting
