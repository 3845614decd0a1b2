-- How the body of a run ends that a line's turns execute.
use Rattle.std.specs.Prelude.{[], Option, Some, None}
use Rattle.protocol_errors.specs.Error.{plain_error}
use Rattle.durable_schedule.specs.Attempts.{RunOutcome}
use Rattle.script_lines.specs.declared.outcome.LineOutcome.{LineOutcome}
use Rattle.script_lines.specs.declared.outcome.LineOutcome.TheVariants as outcome
use Rattle.vm_refusals.specs.declared.retries.RetryPolicy.TheVariants.{Infinite}
use Rattle.vm_refusals.specs.declared.runs.RunExitResult.{RunExitResult}

-- An outcome that is left out is an empty value. Failures have no pairs, and what is tried again took no time.
abbrev pub exit_of : Option LineOutcome → RunExitResult
exit_of None = RunExitResult.Success []
exit_of (Some (outcome.Success bytes)) = RunExitResult.Success bytes
exit_of (Some (outcome.Failure code message)) = RunExitResult.TerminalFailure (record { code = code; message = message; metadata = [] })
exit_of (Some (outcome.Retry code message)) = RunExitResult.RetryableFailure (record { secs = 0; nanos = 0 }) (plain_error code message)

-- it is tried again without end
abbrev pub given_outcome : Option LineOutcome → RunOutcome
given_outcome outcome = record { result = exit_of outcome; policy = Infinite }
