pub mod Placing
pub mod Alike
pub mod Settling
pub mod Growing
pub mod Walking
pub mod Parted
