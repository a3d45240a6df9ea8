pub mod Change
pub mod inside
