pub mod Rows
pub mod Keyed
pub mod NewSlots
pub mod Written
pub mod Hashed
pub mod Drafts
pub mod Laws
