-- Outcomes of a body that no turn takes.
use Rattle.std.specs.Prelude.{◌==◌, Bool, false}
use Rattle.protocol_errors.specs.Code.{journal_mismatch}
use Rattle.vm_attempt.specs.declared.run_outcome.RunOutcome.{RunOutcome}
use Rattle.vm_refusals.specs.declared.runs.RunExitResult.{RunExitResult}

-- a failure that is tried again, with the code of a journal that does not match
abbrev pub is_mismatch : RunExitResult → Bool
is_mismatch (RunExitResult.RetryableFailure attempt_duration error) = error.code.0 == journal_mismatch
is_mismatch _ = false

abbrev pub tells_mismatch : RunOutcome → Bool
tells_mismatch outcome = is_mismatch outcome.result
