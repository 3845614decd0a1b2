pub mod Feeding
pub mod Growing
mod Apart
mod Causing
mod Handing
mod Taking
mod Moving
mod Telling
pub mod Running
pub mod Quieting
pub mod Refusing
pub mod Crashing
pub mod Settling
pub mod Schedules
mod Reopening
mod Forgetting
mod Adding
mod PartlyTaken
mod Written
pub mod Fronting
pub mod WrongRecords
