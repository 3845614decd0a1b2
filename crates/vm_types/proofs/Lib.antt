mod Symbols
pub mod Ready
pub mod Rows
