pub mod Pairs
pub mod Places
pub mod Lift
pub mod LastLift
pub mod LiftLaws
