pub mod TextParts
pub mod KeysIn
pub mod Leaf
