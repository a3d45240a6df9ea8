pub mod Escapes
pub mod Segments
pub mod Lines
pub mod Spelled
pub mod Utf8
pub mod Texts
