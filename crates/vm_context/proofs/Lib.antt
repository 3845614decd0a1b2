pub mod Collecting
pub mod Entries
pub mod Keeping
pub mod Rows
pub mod Sending
pub mod Telling
