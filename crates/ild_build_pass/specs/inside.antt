pub mod Made
pub mod Places
pub mod Fronts
pub mod Written
