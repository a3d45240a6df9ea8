pub mod Slash
pub mod Faults
pub mod Reading
pub mod Printing
pub mod Tokens
pub mod Sound
pub mod Law
pub mod inside
