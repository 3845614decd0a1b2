-- What an await that waits has told, or its suspension, and what a machine fails with then.
use Rattle.std.proofs.Common.{◌≡◌, ◌⊎◌, ◌==◌, inl, inr, ℕ, Bool, true, false, if◌then◌else◌, List, ◌++◌, Result, Ok, Err, IfOk, refl, sym, ap, subst, ◌∙◌}
use Rattle.std.specs.declared.alloc.AllocError.{AllocError}
use Rattle.journal_model.specs.AwaitTree.{AwaitTree}
use Rattle.journal_model.specs.declared.notification.NotificationId.{NotificationId}
use Rattle.journal_model.specs.Run.{Invocation}
use Rattle.journal_model.specs.Spelling.{awaiting_on_payload, frame_bytes}
use Rattle.attempt_model.specs.Machine.{Machine}
use Rattle.protocol_errors.specs.Code.{internal, suspended}
use Rattle.protocol_errors.specs.declared.error.Error.{Error}
use Rattle.protocol_stream.specs.declared.encoder.EncodingError.TheVariants.{PayloadTooLong, OutOfMemory}
use Rattle.protocol_types.specs.Version.{version_number}
use Rattle.protocol_types.specs.declared.message_type.MessageType.TheVariants as messages
use Rattle.protocol_types.specs.declared.version.Version.{Version}
use Rattle.vm_calls.specs.Active.{Sees}
use Rattle.vm_calls.specs.declared.active.Active.{Active}
use Rattle.vm_context.specs.Output.{Written}
use Rattle.vm_start.specs.FailureReport.{FailsNow, IsCopy, TellsError, TellsFailureCause}
use Rattle.vm_start.specs.Failure.{failed_with, asked_behavior}
use Rattle.vm_start.specs.declared.phase.Phase.{Phase}
use Rattle.vm_types.specs.declared.options.JournalMismatchRetryBehavior.{JournalMismatchRetryBehavior}
use Rattle.vm_waiting.specs.SuspensionFrames.{TellsIf}
use Rattle.vm_waiting.specs.declared.suspending.TellError.{TellError}
use Rattle.vm_waiting.specs.declared.suspending.TellError.TheVariants.{TooDeep, Encoding}
use Rattle.vm_outcomes.specs.Outcomes.{awaited_as}
use Rattle.vm_outcomes.specs.declared.outcome.CallOutcome.TheVariants.{Suspended, Failed}

-- ---- frames

-- a frame that tells something is no command, and ends nothing
record IsTold (old new : Written) : Type 0 where
  pub closed : new.is_closed ≡ old.is_closed
  pub version : new.version ≡ old.version
  pub commands : new.has_commands ≡ old.has_commands

told_where : (frame : List ℕ) (written : Written) (closed : Bool) → IsTold written (if closed then written else record written { bytes = written.bytes ++ frame; has_commands = written.has_commands })
told_where frame written true = record { closed = refl; version = refl; commands = refl }
told_where frame written false = record { closed = refl; version = refl; commands = refl }

told_by : (told : Bool) (ids : AwaitTree NotificationId) (old new : Active) → TellsIf told ids old (Ok tt) new → IsTold old.output new.output
told_by true ids old new tells = subst (λ (w : Written). IsTold old.output w) (sym tells.1.0.1) (told_where (frame_bytes messages.AwaitingOn (awaiting_on_payload ids false)) old.output old.output.is_closed)
told_by false ids old new tells = subst (λ (a : Active). IsTold old.output a.output) (sym tells) (record { closed = refl; version = refl; commands = refl })

-- what is told changes nothing of what is seen
told_sees : (given : Invocation) (m : Machine) (old : Active) (output : Written) → Sees given old m → output.is_closed ≡ old.output.is_closed → Sees given (record old { output = output }) m
told_sees given m old output sees same = record {
  left = sees.left;
  replaying = sees.replaying;
  results = sees.results;
  state = sees.state;
  completions = sees.completions;
  signals = sees.signals;
  opened = same ∙ sees.opened;
  children = sees.children;
  made = sees.made;
}

told_alone : (told : Bool) (ids : AwaitTree NotificationId) (old new : Active) → TellsIf told ids old (Ok tt) new → new ≡ record old { output = new.output }
told_alone true ids old new tells = tells.1.1
told_alone false ids old new tells = tells ∙ ap (λ (a : Active). record old { output = a.output }) (sym tells)

pub record IsSeenAs (given : Invocation) (m : Machine) (old new : Active) : Type 0 where
  pub sees : Sees given new m
  pub version : new.output.version ≡ old.output.version
  pub commands : new.output.has_commands ≡ old.output.has_commands

pub tells_seen : (given : Invocation) (m : Machine) (told : Bool) (ids : AwaitTree NotificationId) (old new : Active) → TellsIf told ids old (Ok tt) new → Sees given old m → IsSeenAs given m old new
tells_seen given m told ids old new tells sees =
    let is = told_by told ids old new tells in
    record {
      sees = subst (λ (a : Active). Sees given a m) (sym (told_alone told ids old new tells)) (told_sees given m old new.output sees is.closed);
      version = is.version;
      commands = is.commands;
    }

-- what could not be told is not written
pub untold : (told : Bool) (ids : AwaitTree NotificationId) (old new : Active) (error : TellError) → TellsIf told ids old (Err error) new → new ≡ old
untold true ids old new TooDeep tells = tells.1
untold true ids old new (Encoding PayloadTooLong) tells = tells.1.1 ∙ ap (λ (w : Written). record old { output = w }) tells.1.0.1
untold true ids old new (Encoding OutOfMemory) tells = tells.1.1 ∙ ap (λ (w : Written). record old { output = w }) tells.1.0
untold false ids old new error tells = absurd tells

-- ---- errors

behaved_code : (asked : JournalMismatchRetryBehavior) (error : Error) (changes : Bool) → (if changes then record error { behavior = asked_behavior asked } else error).code.0 ≡ error.code.0
behaved_code asked error true = refl
behaved_code asked error false = refl

abbrev IsOneOf : ℕ → ℕ → Type 0
IsOneOf n code = (code ≡ n) ⊎ (code ≡ internal)

told_one : (error : Error) (old : Written) (told : Error) (new : Written) (n : ℕ) → error.code.0 ≡ n → TellsError error old told new → IsOneOf n told.code.0
told_one error old told new n is (inl tells) = inl (ap (λ (e : Error). e.code.0) tells.0 ∙ is)
told_one error old told new n is (inr (inl tells)) = inr (ap (λ (e : Error). e.code.0) tells.1)
told_one error old told new n is (inr (inr tells)) = inr (ap (λ (e : Error). e.code.0) tells.0)

cause_one : (version : Version) (asked : JournalMismatchRetryBehavior) (cause : Result Error AllocError) (old : Written) (told : Error) (new : Written) (n : ℕ) → IfOk cause (λ error. error.code.0 ≡ n)
    → TellsFailureCause version asked cause old told new → IsOneOf n told.code.0
cause_one version asked (Ok error) old told new n is tells = told_one (failed_with (version_number version) asked error) old told new n (behaved_code asked error _ ∙ is) tells
cause_one version asked (Err refused) old told new n is tells = inr (ap (λ (e : Error). e.code.0) tells.0)

copy_one : (told answer : Error) (n : ℕ) → IsOneOf n told.code.0 → IsCopy told answer → IsOneOf n answer.code.0
copy_one told answer n is (inl same) = subst (λ (e : Error). IsOneOf n e.code.0) (sym same) is
copy_one told answer n is (inr lacks) = inr (ap (λ (e : Error). e.code.0) lacks)

unsuspended : (answer : Error) (n : ℕ) → (n == suspended) ≡ false → IsOneOf n answer.code.0 → awaited_as (Err answer) ≡ Failed answer
unsuspended answer n other (inl is) = ap (λ (b : Bool). if b then Suspended else Failed answer) (ap (λ (k : ℕ). k == suspended) is ∙ other)
unsuspended answer n other (inr is) = ap (λ (b : Bool). if b then Suspended else Failed answer) (ap (λ (k : ℕ). k == suspended) is)

-- a machine that fails with an error of another code was not suspended
failed_as : (version : Version) (asked : JournalMismatchRetryBehavior) (cause : Result Error AllocError) (old : Written) (answer : Error) (phase : Phase) (new : Written) (n : ℕ) → (n == suspended) ≡ false
    → IfOk cause (λ error. error.code.0 ≡ n) → FailsNow version asked cause old answer phase new → awaited_as (Err answer) ≡ Failed answer
failed_as version asked cause old answer phase new n other is fails =
    unsuspended answer n other (copy_one fails.told answer n (cause_one version asked cause old fails.told fails.before n is fails.tells) fails.answers)

-- nor was one that fails with an error of any such code
pub failed_unsuspended : (version : Version) (asked : JournalMismatchRetryBehavior) (cause : Result Error AllocError) (old : Written) (answer : Error) (phase : Phase) (new : Written)
    → IfOk cause (λ error. (error.code.0 == suspended) ≡ false) → FailsNow version asked cause old answer phase new → awaited_as (Err answer) ≡ Failed answer
failed_unsuspended version asked (Ok error) old answer phase new other fails = failed_as version asked (Ok error) old answer phase new error.code.0 other refl fails
failed_unsuspended version asked (Err refused) old answer phase new other fails = failed_as version asked (Err refused) old answer phase new internal refl tt fails
