pub mod Composing
pub mod Ending
pub mod Inlining
pub mod Placing
pub mod Refusing
