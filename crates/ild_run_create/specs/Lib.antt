pub mod Given
pub mod Makes
pub mod Refuses
pub mod Creates
pub mod Laws
pub mod inside
