-- The outcome that the end of a run's body comes to is of its type, if that is.
use Rattle.std.proofs.Common.{◌≡◌, subst}
use Rattle.std.specs.Duration.{as_nanos}
use Rattle.journal_model.specs.declared.value.NonEmptyValue.{NonEmptyValue}
use Rattle.vm_request_laws.specs.Calls.{IsTypedValue}
use Rattle.protocol_errors.specs.declared.error.Error.{Error}
use Rattle.vm_refusals.specs.declared.retries.RetryPolicy.{RetryPolicy}
use Rattle.vm_refusals.specs.declared.runs.RunExitResult.{RunExitResult}
use Rattle.vm_refusals.specs.BodyExits.{Ending, Outcome, ending, ending_by}
use Rattle.vm_refusals.specs.RetryDecisions.{Tried, one_more, AfterFailure, TriedAgain, FailsAsTerminal, Pauses, after_failure}
use Rattle.vm_attempt.specs.ExitTypes.{IsTypedError, IsTypedExit}

abbrev IsTypedEnding : Ending → Type 0
IsTypedEnding (Outcome value) = IsTypedValue value
IsTypedEnding _ = Unit {0}

after_typed : (error : Error) (after : AfterFailure) → IsTypedError error → IsTypedEnding (ending_by error after)
after_typed error (TriedAgain interval) typed = tt
after_typed error FailsAsTerminal typed = record { code = typed.code; message = typed.message; metadata = tt }
after_typed error Pauses typed = tt

ending_typed : (policy : RetryPolicy) (before : Tried) (exit : RunExitResult) → IsTypedExit exit → IsTypedEnding (ending policy before exit)
ending_typed policy before (RunExitResult.Success bytes) typed = tt
ending_typed policy before (RunExitResult.TerminalFailure failure) typed = typed
ending_typed policy before (RunExitResult.RetryableFailure attempt_duration error) typed = after_typed error (after_failure policy (one_more (as_nanos attempt_duration) before)) typed

pub outcome_typed : (policy : RetryPolicy) (before : Tried) (exit : RunExitResult) (value : NonEmptyValue) → IsTypedExit exit → ending policy before exit ≡ Outcome value → IsTypedValue value
outcome_typed policy before exit value typed is = subst IsTypedEnding is (ending_typed policy before exit typed)
