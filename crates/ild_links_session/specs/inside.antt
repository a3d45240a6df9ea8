pub mod Asking
pub mod Looking
