pub mod Among
pub mod Held
pub mod Later
pub mod After
pub mod Written
pub mod Rows
pub mod Reading
