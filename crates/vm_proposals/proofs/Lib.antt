mod Runs
mod Called
mod Proposals
