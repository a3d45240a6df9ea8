mod Stepping
mod Texting
mod Tallying
