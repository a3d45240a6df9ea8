pub mod OneVerdict
mod Failing
