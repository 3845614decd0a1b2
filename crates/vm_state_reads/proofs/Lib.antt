pub mod Answering
pub mod Matching
pub mod Replayed
pub mod Knowing
pub mod Asked
pub mod Spending
pub mod MismatchedReads
