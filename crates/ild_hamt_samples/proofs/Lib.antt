pub mod Above
mod Pairs
