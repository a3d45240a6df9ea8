pub mod Textless
