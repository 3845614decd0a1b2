pub mod HostCalls
pub mod CallPreconditions
