pub mod Outcomes
pub mod OutcomesInFlight
pub mod AttemptWithBodies
pub mod ReplayedAttempt
pub mod Laws
