pub mod Form
pub mod Refusal
