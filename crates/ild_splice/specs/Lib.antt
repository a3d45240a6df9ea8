pub mod Around
pub mod Laws
pub mod Made
pub mod Splices
