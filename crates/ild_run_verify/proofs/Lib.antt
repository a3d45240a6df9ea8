mod Blocks
mod Lines
pub mod OneSaid
