pub mod Seen
pub mod NodeBytes
pub mod Known
pub mod Way
pub mod Rewriting
pub mod Planning
pub mod inside
