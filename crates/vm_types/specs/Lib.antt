pub mod Options
pub mod Reads
