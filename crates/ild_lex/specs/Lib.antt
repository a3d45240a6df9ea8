pub mod Bytes
pub mod Form
pub mod Gap
pub mod Lex
pub mod Span
pub mod inside
