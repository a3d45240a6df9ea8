pub mod Replies
pub mod Edits
pub mod Lines
pub mod Costs
