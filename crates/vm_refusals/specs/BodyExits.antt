-- What the end of a run's body comes to, by the policy of its retries.
use Rattle.std.specs.Prelude.{ℕ, Bool, true, false, ◌&&◌, if◌then◌else◌, [], Option, Some, None, option_map}
use Rattle.std.specs.Duration.{as_nanos}
use Rattle.protocol_types.specs.Feature.{lacks_feature}
use Rattle.protocol_types.specs.declared.feature.Feature.{Feature}
use Rattle.protocol_types.specs.declared.feature.Feature.TheVariants as features
use Rattle.journal_model.specs.declared.value.NonEmptyValue.{NonEmptyValue}
use Rattle.journal_model.specs.declared.value.TerminalFailure.{TerminalFailure}
use Rattle.journal_model.specs.Refusal.{has_pairs}
use Rattle.protocol_errors.specs.declared.error.Error.{Error}
use Rattle.vm_refusals.specs.declared.retries.RetryPolicy.{RetryPolicy}
use Rattle.vm_refusals.specs.declared.runs.RunExitResult.{RunExitResult}
use Rattle.vm_refusals.specs.declared.ending.BodyEnd.{BodyEnd}
use Rattle.vm_refusals.specs.RetryDecisions.{Tried, one_more, AfterFailure, TriedAgain, FailsAsTerminal, Pauses, after_failure, may_pause}

pub data Ending : Type 0 where
  -- an outcome, which is proposed
  Outcome : NonEmptyValue → Ending
  -- none: the attempt fails with the error, after which the next begins, after this delay or after one that the runtime chooses
  Retry : (delay : Option ℕ) → Error → Ending
  -- none: the attempt fails with the error, and the invocation pauses
  Pause : Error → Ending

abbrev pub as_ending : BodyEnd → Ending
as_ending (BodyEnd.Outcome value) = Outcome value
as_ending (BodyEnd.Retry error delay) = Retry (option_map as_nanos delay) error
as_ending (BodyEnd.Pause error) = Pause error

-- an error that is not tried again: its code and its text
abbrev pub terminal_of : Error → TerminalFailure
terminal_of error = record { code = error.code.0; message = error.message; metadata = [] }

abbrev pub ending_by : Error → AfterFailure → Ending
ending_by error (TriedAgain interval) = Retry interval error
ending_by error FailsAsTerminal = Outcome (NonEmptyValue.Failure (terminal_of error))
ending_by error Pauses = Pause error

-- by what the run was tried before
abbrev pub ending : RetryPolicy → (before : Tried) → RunExitResult → Ending
ending policy before (RunExitResult.Success bytes) = Outcome (NonEmptyValue.Success bytes)
ending policy before (RunExitResult.TerminalFailure failure) = Outcome (NonEmptyValue.Failure failure)
ending policy before (RunExitResult.RetryableFailure attempt_duration error) = ending_by error (after_failure policy (one_more (as_nanos attempt_duration) before))

-- whether the outcome is a terminal failure that is made of an error
abbrev pub is_terminal : AfterFailure → Bool
is_terminal FailsAsTerminal = true
is_terminal _ = false

abbrev pub makes_failure : RetryPolicy → (before : Tried) → RunExitResult → Bool
makes_failure policy before (RunExitResult.RetryableFailure attempt_duration error) = is_terminal (after_failure policy (one_more (as_nanos attempt_duration) before))
makes_failure policy before _ = false

-- ---- what a version lacks for an outcome

abbrev pub has_metadata : RunExitResult → Bool
has_metadata (RunExitResult.TerminalFailure failure) = has_pairs failure.metadata
has_metadata _ = false

-- metadata of a failure, and then the pause that the policy may ask for, whatever the body has exited with
abbrev pub feature_lacked : (version : ℕ) → RetryPolicy → RunExitResult → Option Feature
feature_lacked version policy exit =
    if has_metadata exit && lacks_feature version features.FailureMetadata then Some features.FailureMetadata
    else (if may_pause policy && lacks_feature version features.ErrorBehavior then Some features.ErrorBehavior else None)
