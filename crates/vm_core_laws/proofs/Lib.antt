mod Keeping
mod Making
mod Feeding
mod Waiting
mod Runs
mod HostCalls
