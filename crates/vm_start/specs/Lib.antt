pub mod Negotiation
pub mod Starts
pub mod Failure
pub mod Phases
pub mod FailureReport
