-- What a call comes to, and for which cause it fails, passed on, so that crates above name this one alone.
pub use Rattle.vm_core.specs.Outcomes.outcomes
pub use Rattle.vm_core.specs.Outcomes.{IsDriven, Fails, Cause, ByFault, NoNumber, TooLong, TooDeep, NoReplay, NoMemory, FailsWhen, HasPut, requests_passed_on, Answers, Waits, Executes, Suspends, Ends, Comes, CallOutcome}
