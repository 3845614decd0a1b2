pub mod Calls
pub mod Control
pub mod Invocations
pub mod Lines
pub mod Mismatch
pub mod Promises
pub mod State
