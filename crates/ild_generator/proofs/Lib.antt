pub mod Ascii
pub mod Tokens
pub mod Compiled
pub mod Maps
pub mod Steps
pub mod Coming
