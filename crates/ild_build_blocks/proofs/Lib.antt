mod Leaving
mod Alikes
mod Ending
mod Verdict
mod Placed
