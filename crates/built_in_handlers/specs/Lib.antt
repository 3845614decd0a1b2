pub mod Handlers
pub mod BuiltIn
