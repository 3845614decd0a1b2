pub mod Places
pub mod Progress
pub mod Sleeps
pub mod KeptRecords
pub mod Writes
pub mod Steps
pub mod Lookups
pub mod Forgetting
