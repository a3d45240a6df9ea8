mod Staying
pub mod Coming
mod Answering
mod Safe
mod Placing
