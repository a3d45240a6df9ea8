pub mod Proof
pub mod Line
pub mod Verified
pub mod inside
