mod Ran
mod Starting
mod Stepping
