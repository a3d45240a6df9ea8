pub mod Depths
pub mod Roomy
pub mod Edited
pub mod AlongPaths
pub mod Telling
pub mod Holes
mod Valued
pub mod Rooting
