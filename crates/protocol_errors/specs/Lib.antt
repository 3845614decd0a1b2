pub mod AwaitedIds
pub mod Code
pub mod Error
pub mod FixedErrors
pub mod Texts
