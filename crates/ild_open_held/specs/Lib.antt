pub mod Entries
pub mod Held
pub mod Laws
pub mod Leaves
pub mod Roots
pub mod Splits
