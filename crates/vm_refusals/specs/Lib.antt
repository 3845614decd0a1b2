pub mod Refusals
pub mod RetryDecisions
pub mod BodyExits
