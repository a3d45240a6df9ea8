pub mod Wrong
pub mod inside
