-- An attempt, its turns and its output, passed on, so that crates above name this one alone.
pub use Rattle.vm_attempt_laws.specs.Attempts.{Feeds, ClosesInput, Gathers, output_of, Turns, Attempt, Turn}
pub use Rattle.vm_attempt_laws.specs.Bodies.{RunOutcome}
