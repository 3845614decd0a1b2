-- An attempt, its turns and its output, passed on, so that crates above name this one alone.
pub use Rattle.scheduler.specs.Attempts.turn
pub use Rattle.scheduler.specs.Attempts.{Answered, RunOutcome, Turn}
