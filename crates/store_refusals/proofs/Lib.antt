pub mod Causes
pub mod First
