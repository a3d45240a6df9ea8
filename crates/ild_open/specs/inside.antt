pub mod Found
pub mod Item
