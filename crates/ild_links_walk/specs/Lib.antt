pub mod Last
pub mod inside
