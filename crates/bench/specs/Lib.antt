pub mod TimedHandlers
