pub mod Outside
pub mod Keys
pub mod Alike
pub mod Blocks
pub mod Slots
pub mod Around
pub mod Telling
