pub mod HopLaws
pub mod Hops
pub mod Links
