pub mod Carrying
pub mod Flatly
pub mod Settling
pub mod Shallow
pub mod Shortly
