pub mod RequestAnswers
pub mod Fault
pub mod Pages
pub mod LineReads
pub mod Rows
pub mod Dialogue
pub mod StoreChanges
pub mod Lasting
