pub mod Refusals
pub mod Lasting
pub mod Exhausting
pub mod Telling
