mod Held
mod Carrying
mod Edits
mod Editing
mod Seeing
mod Standing
pub mod Written
pub mod Walking
