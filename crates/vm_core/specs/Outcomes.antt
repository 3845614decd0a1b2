-- What a call comes to, and for which cause it fails, passed on, so that crates above name this one alone.
pub use Rattle.vm_outcomes.specs.CallOutcomes.{CarriesOut, Fails, Answers, Waits, Executes, Suspends, Ends, Comes}
pub use Rattle.vm_outcomes.specs.Causes.{Cause, ByFault, NoNumber, TooLong, TooDeep, NoReplay, NoMemory, FailsWhen}
pub use Rattle.vm_outcomes.specs.Runs.{BodiesAreKept, KeepsBodiesOf, runs_after}
pub use Rattle.vm_outcomes.specs.PartialCalls.{HasPut, requests_passed_on}
pub use Rattle.vm_outcomes.specs.DrivenMachine.{IsDriven}
pub use Rattle.vm_outcomes.specs.declared.outcome.CallOutcome.TheVariants as outcomes
pub use Rattle.vm_outcomes.specs.declared.outcome.CallOutcome.{CallOutcome}
