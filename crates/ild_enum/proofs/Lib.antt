mod Decimals
pub mod Members
mod Emptied
