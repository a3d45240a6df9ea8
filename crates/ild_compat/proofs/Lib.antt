mod Meeting
mod Inside
mod Searched
