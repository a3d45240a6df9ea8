pub mod Read
pub mod Tells
