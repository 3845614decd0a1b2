-- An attempt, its turns and its output, passed on, so that crates above name this one alone.
pub use Rattle.schedule_model.specs.Attempts.turn
pub use Rattle.schedule_model.specs.Attempts.{Answered, RunOutcome, Turn}
