pub mod Flats
pub mod Parted
pub mod Nodes
pub mod Heights
pub mod Fitting
pub mod Keys
pub mod Reading
pub mod Again
