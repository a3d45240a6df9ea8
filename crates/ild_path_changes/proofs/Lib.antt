pub mod Datas
pub mod Pairs
pub mod Represents
pub mod Commuting
pub mod Each
pub mod Fields
pub mod Others
pub mod Beside
pub mod Lifting
pub mod HaveTrees
pub mod Represented
pub mod Last
pub mod LastLifting
pub mod LastEdits
pub mod EditOne
pub mod SetOne
pub mod ChangeOne
mod Examples
