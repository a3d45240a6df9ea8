pub mod Told
pub mod Members
pub mod ByParts
pub mod TypedByParts
pub mod Reading
pub mod Meanings
pub mod MeantWhole
pub mod MeantTyped
pub mod Showing
pub mod Filling
pub mod Broken
pub mod Mismatched
mod Examples
pub mod TextParts
pub mod TextRooms
pub mod InTable
pub mod EnoughRooms
pub mod KeyTests
