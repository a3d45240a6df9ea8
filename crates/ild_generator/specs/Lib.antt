pub mod Schema
pub mod Numbers
pub mod Generated
pub mod Laws
