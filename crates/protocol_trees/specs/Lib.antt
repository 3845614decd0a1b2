pub mod Shape
pub mod Tally
pub mod Look
pub mod Future
pub mod FutureShape
