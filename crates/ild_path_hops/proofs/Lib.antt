pub mod Hopping
pub mod Linking
