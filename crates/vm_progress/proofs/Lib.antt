mod Made
mod Machines
pub mod Naming
mod AwaitedRuns
mod Greatest
