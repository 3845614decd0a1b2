pub mod Calls
pub mod Telling
pub mod Host
