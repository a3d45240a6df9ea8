pub mod Wrote
pub mod Made
pub mod Kept
