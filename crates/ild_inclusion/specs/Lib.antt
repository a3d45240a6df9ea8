pub mod Branches
pub mod Way
pub mod Says
pub mod Given
pub mod Verifies
pub mod Laws
pub mod inside
