-- How a body has ended, as an attempt proposes it to its machine.
use Rattle.protocol_errors.specs.declared.error.Error.{Error}
use Rattle.protocol_errors.specs.declared.error.ErrorBehavior.TheVariants.{Retry}
use Rattle.vm_refusals.specs.declared.runs.RunExitResult.{RunExitResult}
use Rattle.vm_attempt.specs.declared.run_outcome.RunOutcome.{RunOutcome}

-- an error that says nothing of what becomes of its invocation
abbrev pub retried : Error → Error
retried error = record error { behavior = Retry }

-- The error of a body that may be executed again says nothing of that: only the policy of its run does. Else a body could end its invocation
-- with an answer that no run gives.
abbrev pub exit_by_policy : RunExitResult → RunExitResult
exit_by_policy (RunExitResult.Success bytes) = RunExitResult.Success bytes
exit_by_policy (RunExitResult.TerminalFailure failure) = RunExitResult.TerminalFailure failure
exit_by_policy (RunExitResult.RetryableFailure attempt_duration error) = RunExitResult.RetryableFailure attempt_duration (retried error)

abbrev pub by_policy : RunOutcome → RunOutcome
by_policy ran = record ran { result = exit_by_policy ran.result }
