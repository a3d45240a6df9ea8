pub mod Finds
pub mod Ends
pub mod Raises
pub mod Changes
