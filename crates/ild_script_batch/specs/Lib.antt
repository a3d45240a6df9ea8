pub mod Inside
pub mod Commits
pub mod Stages
