pub mod Allowing
mod Beneath
mod Changing
mod Numbering
pub mod Replacing
