-- A body that has failed says nothing of what becomes of its invocation: its policy does.
use Rattle.std.proofs.Common.{◌≡◌, refl, codes, None}
use Rattle.std.specs.declared.time.Duration.{Duration}
use Rattle.protocol_errors.specs.Error.{plain_error}
use Rattle.protocol_errors.specs.declared.error.Error.{Error}
use Rattle.protocol_errors.specs.declared.error.ErrorBehavior.TheVariants as behaviors
use Rattle.vm_refusals.specs.declared.retries.RetryPolicy.{RetryPolicy}
use Rattle.vm_refusals.specs.declared.runs.RunExitResult.{RunExitResult}
use Rattle.vm_refusals.specs.BodyExits.{Retry, ending}
use Rattle.vm_refusals.specs.RetryDecisions.{Tried}
use Rattle.vm_attempt.specs.Bodies.{exit_by_policy}

-- an error that asks for the end of its invocation, and one for a pause
abbrev ends : Error
ends = record (plain_error 500 (codes "boom")) { behavior = behaviors.Fail }

abbrev pauses : Error
pauses = record (plain_error 500 (codes "boom")) { behavior = behaviors.Pause }

-- either is tried again as one that asks for neither
ends_again : (took : Duration) (before : Tried) → ending RetryPolicy.Infinite before (exit_by_policy (RunExitResult.RetryableFailure took ends)) ≡ Retry None (plain_error 500 (codes "boom"))
ends_again took before = refl

pauses_again : (took : Duration) (before : Tried) → ending RetryPolicy.Infinite before (exit_by_policy (RunExitResult.RetryableFailure took pauses)) ≡ Retry None (plain_error 500 (codes "boom"))
pauses_again took before = refl
