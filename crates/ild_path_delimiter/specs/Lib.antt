pub mod Laws
pub mod Tells
pub mod TextEdits
pub mod inside
