pub mod Entries
pub mod Invocation
pub mod Rows
pub mod ShownTexts
