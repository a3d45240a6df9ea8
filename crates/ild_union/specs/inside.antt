pub mod Answers
pub mod Envelope
