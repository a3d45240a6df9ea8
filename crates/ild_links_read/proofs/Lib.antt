mod Viewing
mod Telling
mod Crossing
