mod Blocks
mod Earlier
mod Lasts
mod Carried
mod Done
mod Upward
mod Crossing
