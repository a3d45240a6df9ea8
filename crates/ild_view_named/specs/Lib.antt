pub mod NamedBlock
pub mod NamedDocs
