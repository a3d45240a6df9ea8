pub mod Along
pub mod Edited
pub mod Edits
pub mod Holders
pub mod Standing
pub mod Viewed
