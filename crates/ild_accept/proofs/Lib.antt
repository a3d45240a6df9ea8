mod Failings
mod Stepwise
mod Searches
mod Ranking
mod Telling
mod Holding
pub mod Verdicts
