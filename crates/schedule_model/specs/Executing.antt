-- A turn whose body is executed when it is asked for.
use Rattle.std.specs.Prelude.{◌≡◌, ◌⊎◌, ◌==◌, ℕ, false, if◌then◌else◌, List, codes, Some}
use Rattle.std.specs.Duration.{as_nanos}
use Rattle.std.specs.declared.time.Duration.{Duration}
use Rattle.journal_model.specs.Notification.{Text}
use Rattle.journal_model.specs.Run.{Handler}
use Rattle.journal_model.specs.declared.handler.Input.{Input}
use Rattle.protocol_errors.specs.Code.{internal, journal_mismatch}
use Rattle.protocol_errors.specs.Error.{plain_error}
use Rattle.protocol_errors.specs.declared.error.Error.{Error}
use Rattle.vm_refusals.specs.declared.retries.RetryPolicy.{RetryPolicy}
use Rattle.vm_refusals.specs.declared.runs.RunExitResult.{RunExitResult}
use Rattle.vm_start.specs.FailureReport.{out_of_memory}
use Rattle.vm_attempt.specs.RunNames.{run_name}
use Rattle.vm_attempt.specs.TurnOutcomes.{AsksForBody, RanNone, RunsBody, Turns}
use Rattle.vm_attempt.specs.declared.attempt.Attempt.{Attempt}
use Rattle.vm_attempt.specs.declared.run_outcome.RunOutcome.{RunOutcome}
use Rattle.vm_attempt.specs.declared.turn.Turn.{Turn}
use Rattle.schedule_model.specs.Outcomes.{tells_mismatch}

-- ---- what is proposed

abbrev pub mismatch_text : List ℕ
mismatch_text = codes "a body has failed with the code of a journal that does not match"

-- no body fails with the code of a journal that does not match: with that of an internal error in its place
abbrev pub mended : Error → Error
mended error = if error.code.0 == journal_mismatch then plain_error internal mismatch_text else error

abbrev pub mended_exit : RunExitResult → RunExitResult
mended_exit (RunExitResult.Success bytes) = RunExitResult.Success bytes
mended_exit (RunExitResult.TerminalFailure failure) = RunExitResult.TerminalFailure failure
mended_exit (RunExitResult.RetryableFailure attempt_duration error) = RunExitResult.RetryableFailure attempt_duration (mended error)

-- what is proposed where a body has ended so
abbrev pub proposed : RunOutcome → RunOutcome
proposed ran = record ran { result = mended_exit ran.result }

-- a body for whose name there was no memory is tried again
abbrev pub IsUnnamed : RunOutcome → Type 0
IsUnnamed ran = (none : Duration) × (as_nanos none ≡ 0) × (ran ≡ record { result = RunExitResult.RetryableFailure none out_of_memory; policy = RetryPolicy.Infinite })

-- ---- who is asked

-- what is answered, of an invocation, a name and what the handler was given, by whoever executes bodies
abbrev pub Execution : Type 0 → Type 1
Execution E = Text → Text → Input → E → RunOutcome → E → Type 0

module _ {H E : Type 0} (Executes : Execution E) (function : H → Handler) (id : Text) where
  -- What is proposed for the run of this handle is what was answered for its name, and for what the handler was given.
  pub record Executed (handle : ℕ) (a : Attempt H) (e : E) (ran : RunOutcome) (f : E) : Type 0 where
    pub input : Input
    pub read : a.input ≡ Some input
    pub answered : RunOutcome
    pub executes : Executes id (run_name function handle a) input e answered f
    pub proposes : ran ≡ proposed answered

  -- Or there was no memory for its name, and nobody was asked.
  abbrev pub Answers : (handle : ℕ) (a : Attempt H) (e : E) (ran : RunOutcome) (f : E) → Type 0
  Answers handle a e ran f = Executed handle a e ran f ⊎ ((f ≡ e) × IsUnnamed ran)

  -- a turn that has ended no body asks nobody
  abbrev pub AsksNone : Turn → (e f : E) → Type 0
  AsksNone turn e f = RanNone turn × (f ≡ e)

  -- the handler's next call comes to the body of this run, which ends as was answered
  pub record EndsBody (before : Attempt H) (e : E) (ran : RunOutcome) (turn : Turn) (after : Attempt H) (f : E) : Type 0 where
    pub handle : ℕ
    pub between : Attempt H
    pub asks : AsksForBody function handle before between
    pub stays : between ≡ record before { vm = between.vm }
    pub answers : Answers handle before e ran f
    pub ends : RunsBody ran handle between turn after

  -- of a turn with this outcome: whom it asks
  abbrev pub Asks : (before : Attempt H) (e : E) (ran : RunOutcome) (turn : Turn) (after : Attempt H) (f : E) → Type 0
  Asks before e ran turn after f = AsksNone turn e f ⊎ EndsBody before e ran turn after f

  -- A turn with some outcome, which no turn refuses: with that of the body that it asks for, or of none.
  pub record TurnsWith (before : Attempt H) (e : E) (turn : Turn) (after : Attempt H) (f : E) : Type 0 where
    pub ran : RunOutcome
    pub taken : tells_mismatch ran ≡ false
    pub turns : Turns function ran before turn after
    pub asks : Asks before e ran turn after f
