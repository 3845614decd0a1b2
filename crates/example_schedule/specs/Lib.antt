pub mod EveryCall
pub mod Payment
pub mod Reminder
pub mod Stamp
pub mod Values
pub mod Work
