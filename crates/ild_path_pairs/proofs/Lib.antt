pub mod Answering
pub mod Becoming
pub mod Placing
pub mod Texts
pub mod Walking
