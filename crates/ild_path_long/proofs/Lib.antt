pub mod Shorter
pub mod Trie
pub mod Parts
