pub mod Judged
pub mod Met
pub mod Passed
pub mod Searching
