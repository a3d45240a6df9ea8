mod Empties
mod NoEntries
mod Putting
mod Rooted
mod Short
mod Unrefused
