pub mod TreeChange
pub mod Laws
pub mod Differences
pub mod Spliced
