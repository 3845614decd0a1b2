pub mod Calls
pub mod Choices
pub mod Commands
pub mod Laws
pub mod Parts
pub mod Payloads
pub mod Records
pub mod EqualityTests
