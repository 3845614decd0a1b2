pub mod HeaderEquality
pub mod Meanings
pub mod RecordMeanings
pub mod NextCommand
pub mod RecordedCommands
pub mod RereadState
pub mod StateReads
