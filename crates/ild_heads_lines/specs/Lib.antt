pub mod Name
pub mod Number
pub mod Asks
pub mod Told
pub mod Laws
