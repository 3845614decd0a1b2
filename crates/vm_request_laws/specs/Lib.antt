pub mod RequestBounds
pub mod Requests
pub mod Calls
pub mod MadeRequests
pub mod Trees
pub mod AwaitedTrees
pub mod Machines
