pub mod Texts
pub mod Fields
pub mod Forms
pub mod Values
pub mod Nodes
pub mod Paths
