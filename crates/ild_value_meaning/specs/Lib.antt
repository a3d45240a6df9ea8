pub mod Names
pub mod Meant
pub mod MeantRead
pub mod Risen
pub mod Filled
pub mod Mismatch
pub mod MeantLaws
pub mod KeyTests
