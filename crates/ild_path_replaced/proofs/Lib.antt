pub mod Carrying
mod Finding
mod Noding
