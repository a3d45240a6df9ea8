pub mod Onway
pub mod Stops
pub mod Halts
pub mod Along
pub mod Reading
pub mod Entering
pub mod Answering
pub mod Tops
