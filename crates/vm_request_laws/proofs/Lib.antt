pub mod Requests
pub mod Records
pub mod MadeRequests
pub mod RequestBounds
pub mod Handles
pub mod Children
pub mod Machines
