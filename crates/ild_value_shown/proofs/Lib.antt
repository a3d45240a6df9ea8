pub mod Heights
pub mod Fronts
pub mod Picked
pub mod Orders
pub mod Forms
