pub mod Answering
pub mod Calling
