pub mod Joining
pub mod Cutting
pub mod Drafts
pub mod Keys
pub mod Changes
