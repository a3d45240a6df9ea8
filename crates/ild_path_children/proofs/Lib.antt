pub mod Topping
pub mod Wayward
pub mod Mapping
pub mod Leaving
