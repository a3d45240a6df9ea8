pub mod Judged
pub mod Verdict
pub mod inside
