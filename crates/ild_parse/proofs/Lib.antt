pub mod Texts
pub mod Inputs
pub mod Values
pub mod Many
pub mod Derived
pub mod Rules
