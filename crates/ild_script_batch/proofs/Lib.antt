mod Changes
mod Beneath
mod Carrying
pub mod Inside
mod Listed
mod Unkinded
mod Commits
mod Stages
