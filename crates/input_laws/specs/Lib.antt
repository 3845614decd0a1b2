pub mod ArrivalsRead
pub mod Message
pub mod Laws
pub mod CompletionsOnce
