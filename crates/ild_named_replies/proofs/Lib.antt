pub mod Telling
pub mod Meaning
pub mod Judging
pub mod Editing
pub mod Answering
pub mod Costing
pub mod Owing
