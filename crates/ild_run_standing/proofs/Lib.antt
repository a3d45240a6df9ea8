pub mod Still
pub mod Held
pub mod Passing
