pub mod Input
pub mod Attempts
pub mod ChangedRoom
pub mod Rows
