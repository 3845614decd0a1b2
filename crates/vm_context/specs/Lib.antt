pub mod Eager
pub mod StateKnowledge
pub mod Journal
pub mod Output
