pub mod Comparing
pub mod NextCommand
pub mod Recording
pub mod Retelling
