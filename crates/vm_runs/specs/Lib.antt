pub mod Runs
pub mod KeptBodies
