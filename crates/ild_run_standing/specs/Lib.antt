pub mod Standing
pub mod Answers
pub mod Blame
pub mod Laws
