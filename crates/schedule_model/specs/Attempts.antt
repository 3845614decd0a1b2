-- An attempt, its turns and its output, passed on, so that crates above name this one alone.
pub use Rattle.vm_attempt.specs.Attempt as attempts
pub use Rattle.vm_attempt.specs.Attempt.{IsMadeAndFed, has_stopped}
pub use Rattle.vm_attempt.specs.Output.{output_of, Advances, Gathers, LetsGo, ShowsFirst}
pub use Rattle.vm_attempt.specs.declared.attempt.Attempt.{Attempt}
pub use Rattle.vm_attempt.specs.declared.run_outcome.RunOutcome.{RunOutcome}
pub use Rattle.vm_attempt.specs.declared.turn.Turn.TheVariants as turn
pub use Rattle.vm_attempt.specs.declared.turn.Turn.TheVariants.{Answered}
pub use Rattle.vm_attempt.specs.declared.turn.Turn.{Turn}
