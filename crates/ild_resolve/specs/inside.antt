pub mod Numbers
pub mod Counts
pub mod Survey
pub mod Marks
pub mod Judged
