pub mod Searching
pub mod Stand
pub mod Told
pub mod Walking
