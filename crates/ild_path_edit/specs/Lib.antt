pub mod Holders
pub mod Made
pub mod inside
