pub mod Promises
pub mod HostRows
