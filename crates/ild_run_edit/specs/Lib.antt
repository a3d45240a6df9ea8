pub mod Edits
pub mod Naming
pub mod inside
