-- An attempt, its turns and its output, passed on, so that crates above name this one alone.
pub use Rattle.vm_attempt.specs.Attempt.{IsUnasked, FeedsUnless, ClosesUnless, IsBegun, Feeds, ClosesInput}
pub use Rattle.vm_attempt.specs.Output.{output_of, OnlyTaken, OnlyMoves, Shows, LetsGo, TakesOutput, taken_of, Gathers}
pub use Rattle.vm_attempt.specs.TurnOutcomes.{again, TurnsWhere, TurnsUnless, Turns, FinishesBy, TakesAnswer, RunsBody, TakesOutcome, ran_or_failed, CarriesCall, GivesInput, ReadsInput, ReadsOrAsks, TurnsOn, ComesToBody, AsksForBody}
pub use Rattle.vm_attempt.specs.declared.attempt.Attempt.{Attempt}
pub use Rattle.vm_attempt.specs.declared.turn.Finish.TheVariants as finishes
pub use Rattle.vm_attempt.specs.declared.turn.Finish.{Finish}
pub use Rattle.vm_attempt.specs.declared.turn.Turn.TheVariants as turns
pub use Rattle.vm_attempt.specs.declared.turn.Turn.{Turn}
