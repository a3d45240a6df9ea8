pub mod Escape
pub mod Path
pub mod Line
pub mod Reads
pub mod Reply
pub mod Laws
