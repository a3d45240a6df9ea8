pub mod Rules
pub mod Plain
pub mod Runs
pub mod Roots
pub mod Standing
pub mod Held
pub mod inside
