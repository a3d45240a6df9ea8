pub mod Alike
pub mod Entered
pub mod Fitting
pub mod Known
pub mod Pathing
pub mod Rooting
pub mod Standing
