mod Answered
mod Ended
mod Refusals
mod Stopped
