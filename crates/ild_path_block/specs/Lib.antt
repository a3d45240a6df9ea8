pub mod Edits
pub mod Changes
pub mod Spliced
pub mod Items
