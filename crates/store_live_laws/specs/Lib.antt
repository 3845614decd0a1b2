pub mod InputRows
pub mod RowLaws
pub mod Memory
pub mod LiveAttempts
