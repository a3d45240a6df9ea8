pub mod Appending
pub mod Blocks
pub mod Choosing
pub mod Looking
pub mod Opening
pub mod Splitting
