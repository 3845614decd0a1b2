pub mod Words
pub mod RequestPuts
pub mod Active
pub mod CommandCalls
pub mod Handles
pub mod ImmediateCalls
pub mod SpentReplay
pub mod MismatchedCommands
