pub mod Nodes
pub mod Options
pub mod Records
pub mod Policies
pub mod Replies
pub mod Arguments
pub mod Stacks
pub mod Levels
