pub mod Leaves
pub mod AllOf
pub mod Shows
pub mod Entries
pub mod Taken
pub mod Named
pub mod Exact
