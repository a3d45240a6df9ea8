pub mod Finish
pub mod InBlock
pub mod AtKey
