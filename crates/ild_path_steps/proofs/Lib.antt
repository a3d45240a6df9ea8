pub mod Fielding
pub mod Holding
pub mod Leading
pub mod Listing
pub mod Pairing
pub mod Standing
