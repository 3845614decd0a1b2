pub mod Targets
pub mod Message
pub mod Outbox
pub mod Log
pub mod Delivery
pub mod Posted
pub mod Answers
