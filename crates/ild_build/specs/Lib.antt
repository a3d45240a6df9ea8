pub mod PartAt
pub mod LeftOut
pub mod TextRep
pub mod IsJudged
pub mod inside
