pub mod Leaving
pub mod PlainValues
pub mod PlainJudged
pub mod PlainChanges
pub mod PlainLines
pub mod Holding
mod Examples
