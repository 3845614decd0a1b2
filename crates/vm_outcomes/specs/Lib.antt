pub mod DrivenMachine
pub mod Runs
pub mod PartialCalls
pub mod Causes
pub mod CallOutcomes
pub mod Outcomes
