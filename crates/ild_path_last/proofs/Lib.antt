mod Counting
mod Comings
mod Seeking
pub mod Passing
mod Forming
mod Naming
mod Verbs
