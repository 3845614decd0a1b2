-- A turn whose body is executed when it is asked for is a turn with an outcome that no turn refuses.
use Rattle.std.proofs.Common.{◌≡◌, ◌==◌, refl, sym, ap, subst, ◌∙◌, ℕ, Bool, true, false, if◌then◌else◌, [], inl, inr}
use Rattle.journal_model.specs.Notification.{Text}
use Rattle.journal_model.specs.Run.{Handler}
use Rattle.protocol_errors.specs.Code.{internal, journal_mismatch}
use Rattle.protocol_errors.specs.Error.{plain_error}
use Rattle.protocol_errors.specs.declared.error.Error.{Error}
use Rattle.vm_refusals.specs.declared.retries.RetryPolicy.{RetryPolicy}
use Rattle.vm_refusals.specs.declared.runs.RunExitResult.{RunExitResult}
use Rattle.vm_attempt.specs.RunNames.{run_name}
use Rattle.vm_attempt.specs.TurnOutcomes.{again, AsksForBody, RanNone, RunsBody, StepIs, Turns}
use Rattle.vm_attempt.specs.declared.attempt.Attempt.{Attempt}
use Rattle.vm_attempt.specs.declared.run_outcome.RunOutcome.{RunOutcome}
use Rattle.vm_attempt.specs.declared.turn.Finish.{Finish}
use Rattle.vm_attempt.specs.declared.turn.Finish.TheVariants as finishes
use Rattle.vm_attempt.specs.declared.turn.Step.TheVariants as steps
use Rattle.vm_attempt.specs.declared.turn.Turn.{Turn}
use Rattle.schedule_model.specs.AttemptMemory.{FailsAgain}
use Rattle.schedule_model.specs.Executing.{Answers, Execution, IsUnnamed, TurnsWith, mended, mended_exit, mismatch_text, proposed}
use Rattle.schedule_model.specs.Outcomes.{is_mismatch, tells_mismatch}

mended_told : (error : Error) (b : Bool) → (error.code.0 == journal_mismatch) ≡ b → ((if b then plain_error internal mismatch_text else error).code.0 == journal_mismatch) ≡ false
mended_told error true is = refl
mended_told error false is = is

exit_told : (exit : RunExitResult) → is_mismatch (mended_exit exit) ≡ false
exit_told (RunExitResult.Success bytes) = refl
exit_told (RunExitResult.TerminalFailure failure) = refl
exit_told (RunExitResult.RetryableFailure duration error) = mended_told error (error.code.0 == journal_mismatch) refl

proposed_taken : (ran : RunOutcome) → tells_mismatch (proposed ran) ≡ false
proposed_taken ran = exit_told ran.result

unnamed_taken : (ran : RunOutcome) → IsUnnamed ran → tells_mismatch ran ≡ false
unnamed_taken ran (none, zero, is) = ap (λ (o : RunOutcome). tells_mismatch o) is

-- an outcome with which any turn may be made that asks for no body
abbrev pub nothing : RunOutcome
nothing = record { result = RunExitResult.Success []; policy = RetryPolicy.Infinite }

-- an attempt that is over executes none
pub over_none : (finish : Finish) (turn : Turn) → turn ≡ again finish → RanNone turn
over_none finish turn is = subst RanNone (sym is) (none finish)
  where
    none : (finish : Finish) → RanNone (again finish)
    none finishes.Suspended = tt
    none finishes.Ended = tt
    none finishes.OutOfMemory = tt

pub failed_none : (error : Error) (turn : Turn) → FailsAgain error turn → RanNone turn
failed_none error turn fails = subst RanNone (sym fails.2) tt

module _ {H E : Type 0} (Executes : Execution E) (function : H → Handler) (id : Text) (before : Attempt H) (e : E) where
  pub taken : (handle : ℕ) (ran : RunOutcome) (f : E) → Answers Executes function id handle before e ran f → tells_mismatch ran ≡ false
  taken handle ran f (inl did) = ap (λ (o : RunOutcome). tells_mismatch o) did.proposes ∙ proposed_taken did.answered
  taken handle ran f (inr (same, is)) = unnamed_taken ran is

  -- no body was asked for
  pub turned : (turn : Turn) (after : Attempt H) → ((ran : RunOutcome) → Turns function ran before turn after) → RanNone turn → TurnsWith Executes function id before e turn after e
  turned turn after turns none = record { ran = nothing; taken = refl; turns = turns nothing; asks = inl (none, refl) }

  -- what is asked for of the attempt between the halves is asked for of the attempt before
  same_answers : (handle : ℕ) (between : Attempt H) (ran : RunOutcome) (f : E) → between ≡ record before { vm = between.vm } → Answers Executes function id handle between e ran f
      → Answers Executes function id handle before e ran f
  same_answers handle between ran f stays (inl did) = inl (record {
    input = did.input;
    read = sym (ap (λ (a : Attempt H). a.input) stays) ∙ did.read;
    answered = did.answered;
    executes = subst (λ (name : Text). Executes id name did.input e did.answered f) (ap (λ (a : Attempt H). run_name function handle a) stays) did.executes;
    proposes = did.proposes;
  })
  same_answers handle between ran f stays (inr none) = inr none

  -- or one was
  pub asked : (handle : ℕ) (between : Attempt H) (ran : RunOutcome) (turn : Turn) (after : Attempt H) (f : E)
      → StepIs (λ ran turn after. Turns function ran before turn after) (steps.Asks handle) between → between ≡ record before { vm = between.vm }
      → AsksForBody function handle before between
      → Answers Executes function id handle between e ran f → RunsBody ran handle between turn after → TurnsWith Executes function id before e turn after f
  asked handle between ran turn after f step stays asks answers ends = record {
    ran = ran;
    taken = taken handle ran f (same_answers handle between ran f stays answers);
    turns = step ran turn after ends;
    asks = inr (record { handle = handle; between = between; asks = asks; stays = stays; answers = same_answers handle between ran f stays answers; ends = ends });
  }
