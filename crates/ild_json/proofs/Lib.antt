pub mod Walks
pub mod Shows
pub mod Slashes
pub mod Texts
pub mod Keys
pub mod Order
pub mod Bytewise
pub mod Written
pub mod Back
pub mod Documents
pub mod Depths
pub mod Meaning
mod Numbers
