pub mod Weights
pub mod Placed
pub mod Writes
pub mod Fitting
pub mod inside
