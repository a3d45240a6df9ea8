pub mod Opens
pub mod Inside
pub mod Stacked
