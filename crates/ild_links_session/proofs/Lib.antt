mod Twice
mod Firsts
mod Stopping
mod Walking
mod Holding
mod Behind
mod Within
mod Turned
pub mod Lining
mod Crossing
