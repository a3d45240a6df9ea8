pub mod Among
pub mod Causing
pub mod Coming
pub mod Rerooting
