pub mod Tallying
pub mod Forests
pub mod Places
