pub mod MadeMachine
pub mod Calls
pub mod Outcomes
