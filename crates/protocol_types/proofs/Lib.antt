pub mod Types
pub mod Versions
