mod Telling
mod Finishing
mod Moving
mod Inner
mod Ending
mod Counting
mod Keying
mod AtKeys
mod Carried
pub mod Leading
