pub mod Results
pub mod Children
pub mod Requests
pub mod Machine
pub mod Simulation
pub mod Attempts
