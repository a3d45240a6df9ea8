pub mod Parts
pub mod Last
pub mod Along
pub mod Holes
pub mod Tries
pub mod Filled
pub mod Judging
pub mod Order
