-- Reads of the object's state.
use Rattle.std.proofs.Common.{◌≡◌, ℕ, Bool, true, false, inl, inr, List, [], length, Some, None, Result, Ok, Err, sym, subst}
use Rattle.std.specs.declared.alloc.AllocError.{AllocError}
use Rattle.journal_model.specs.History.{completions_of, ids_of}
use Rattle.journal_model.specs.Notification.{Text}
use Rattle.journal_model.specs.Refusal.{refusal_of}
use Rattle.journal_model.specs.Run.{Invocation}
use Rattle.journal_model.specs.declared.call.Answer.{Answer}
use Rattle.journal_model.specs.declared.call.Call.{Call}
use Rattle.attempt_model.specs.Machine.{Machine}
use Rattle.protocol_errors.specs.Code.{internal, protocol_violation}
use Rattle.protocol_errors.specs.FixedErrors.{fixed_code}
use Rattle.protocol_errors.specs.declared.error.Error.{Error}
use Rattle.protocol_errors.specs.declared.fixed.FixedError.{FixedError}
use Rattle.protocol_stream.specs.ErrorText.{too_long_text}
use Rattle.protocol_stream.specs.declared.encoder.EncodingError.TheVariants as unsent
use Rattle.protocol_types.specs.declared.message_type.MessageType.{MessageType}
use Rattle.vm_calls.specs.declared.active.Active.{Active}
use Rattle.vm_calls.specs.declared.call_error.NumberError.TheVariants as numbers
use Rattle.vm_commands.specs.declared.replay_error.ReplayError.TheVariants as unmatched
use Rattle.vm_commands.specs.declared.state_read.StateReadError.TheVariants as errors
use Rattle.vm_context.specs.Journal.{no_id_text}
use Rattle.vm_progress.specs.Causes.{ReadCauses}
use Rattle.vm_progress.specs.StateReadEffects.{ReadKind, IsStateRead, MissesNext, SettlesRead, StepsOfRead}
use Rattle.vm_state_reads.specs.ReadAnswers.{ReadFailsAs, Reads}
use Rattle.vm_state_reads.specs.ReadDescriptions.{type_in_replay, type_behind, IsAtRead}
use Rattle.vm_state_reads.specs.declared.read_error.ReadError.{ReadError}
use Rattle.vm_state_reads.specs.declared.read_error.ReadError.TheVariants.{Number, Replay, Encoding, OutOfMemory}
use Rattle.vm_machine.specs.Calls.{checks_off}
use Rattle.vm_machine.specs.declared.machine_state.MachineState.{MachineState}
use Rattle.vm_outcomes.specs.CallOutcomes.{Answers, Comes, CarriesOut}
use Rattle.vm_outcomes.specs.Causes.{Unread, NoRead, Differs, Unanswered, NoNumber, TooLong, AreRequestsAsked, HasCause}
use Rattle.vm_outcomes.specs.DrivenMachine.{IsDriven}
use Rattle.vm_outcomes.specs.PartialCalls.{requests_passed_on}
use Rattle.vm_outcomes.specs.Outcomes.{answered_as}
use Rattle.vm_outcomes.specs.declared.outcome.CallOutcome.{CallOutcome}
use Rattle.vm_outcomes.proofs.Answering.{is_run, leaves_runs, no_signal, answered}
use Rattle.vm_outcomes.proofs.Calling.{lacks_completions}
use Rattle.vm_outcomes.proofs.Failing.{none_put, no_memory, told_last, mismatches, failed}
use Rattle.vm_outcomes.proofs.Steps.{steps_of}

-- a read is a command that was asked for
at_read : (eager lazy : MessageType) (replaying known : Bool) (name : Text) (old new : Active) → IsAtRead eager lazy replaying known name old new → AreRequestsAsked [] old.journal new.journal
at_read eager lazy true known name old new told = inr (type_in_replay eager lazy old.commands.items, ([], told))
at_read eager lazy false known name old new told = inr (type_behind eager lazy known, (name, told))

module _ (given : Invocation) (m : Machine) (call : Call) (old : MachineState) (driven : IsDriven given m old) (unrefused : refusal_of given.version call ≡ None)
    (same : length (ids_of m.completions m.signals call) ≡ completions_of call) (alone : requests_passed_on given m call ≡ []) (quiet : is_run call ≡ false) where
  module _ {L E : Type 0} (lazy_difference : L → L → List ℕ) (eager_difference : E → E → List ℕ) (empty : FixedError) (violates : fixed_code empty ≡ protocol_violation) where
    read_cause : (active : Active) (asked : AreRequestsAsked [] old.active.journal active.journal) (error : ReadError L E) (told : Result Error AllocError) → ReadFailsAs (checks_off old.options.non_determinism_checks) given m call old.active error
        → ReadCauses lazy_difference eager_difference empty active.journal error told → HasCause given m call old (none_put given m call old) active told
    read_cause active asked (Number numbers.IdsExhausted) told fails causes = record {
      cause = NoNumber;
      when = (unrefused, lacks_completions given m call old.active driven.sees same fails);
      at = tt;
      tells = told_last active.journal internal (Some no_id_text) told causes;
      leaves = asked;
    }
    read_cause active asked (Number numbers.OutOfMemory) told fails causes = no_memory given m call old active asked told causes
    read_cause active asked (Replay (errors.OtherType error)) told fails causes = mismatches given m call old active asked alone (NoRead error) told fails.0 tt causes
    read_cause active asked (Replay errors.Empty) told fails causes = mismatches given m call old active asked alone (Unanswered empty) told fails.0.0 (violates, fails.0.1) causes
    read_cause active asked (Replay (errors.Lazy (unmatched.Unavailable error))) told fails causes = absurd fails.0
    read_cause active asked (Replay (errors.Lazy (unmatched.Decoding error))) told fails causes =
        mismatches given m call old active asked alone (Unread error) told fails.0.0 fails.0.1 causes
    read_cause active asked (Replay (errors.Lazy (unmatched.Mismatch error))) told fails causes =
        mismatches given m call old active asked alone (Differs error.command_index (lazy_difference error.actual error.expected)) told fails.0 tt causes
    read_cause active asked (Replay (errors.Lazy unmatched.OutOfMemory)) told fails causes = no_memory given m call old active asked told causes
    read_cause active asked (Replay (errors.Eager (unmatched.Unavailable error))) told fails causes = absurd fails.0
    read_cause active asked (Replay (errors.Eager (unmatched.Decoding error))) told fails causes =
        mismatches given m call old active asked alone (Unread error) told fails.0.0 fails.0.1 causes
    read_cause active asked (Replay (errors.Eager (unmatched.Mismatch error))) told fails causes =
        mismatches given m call old active asked alone (Differs error.command_index (eager_difference error.actual error.expected)) told fails.0 tt causes
    read_cause active asked (Replay (errors.Eager unmatched.OutOfMemory)) told fails causes = no_memory given m call old active asked told causes
    read_cause active asked (Encoding unsent.PayloadTooLong) told fails causes = record { cause = TooLong; when = (unrefused, inl fails.0); at = tt; tells = told_last active.journal internal (Some too_long_text) told causes; leaves = asked }
    read_cause active asked (Encoding unsent.OutOfMemory) told fails causes = no_memory given m call old active asked told causes
    read_cause active asked OutOfMemory told fails causes = no_memory given m call old active asked told causes

    pub read_settles : (made : Result ℕ (ReadError L E)) (active : Active) (asked : AreRequestsAsked [] old.active.journal active.journal) (result : Result ℕ Error) (new : MachineState)
        → Reads (checks_off old.options.non_determinism_checks) given m call old.active made active → SettlesRead lazy_difference eager_difference empty made (record old { active = active }) result new
        → Comes given m call old (answered_as (λ handle. Answer.Handle handle) result) new
    read_settles (Ok handle) active asked (Ok got) new reads settles =
        subst (λ (n : ℕ). Answers given m call old (Answer.Handle n) new) (sym settles.0)
        (subst (λ (vm : MachineState). Answers given m call old (Answer.Handle handle) vm) (sym settles.1) (answered given m call old driven old.runs (leaves_runs m call old quiet) (inl (no_signal m.completions m.signals call same)) (Answer.Handle handle) active reads))
    read_settles (Ok handle) active asked (Err told) new reads settles = absurd settles
    read_settles (Err error) active asked (Ok got) new reads settles = absurd settles
    read_settles (Err error) active asked (Err told) new reads settles =
        failed given m call old driven.phase settles.cause active told new (read_cause active asked error settles.cause reads.0 settles.causes) reads.1 settles.fails

  module _ {L E : Type 0} (kind : ReadKind L E) (known : Active → Bool) (name : Text) (violates : fixed_code kind.empty ≡ protocol_violation) where
    read_made : (result : Result ℕ Error) (new : MachineState) → IsStateRead kind call known name old result new → Comes given m call old (answered_as (λ handle. Answer.Handle handle) result) new
    read_made result new read =
        read_settles kind.lazy_difference kind.eager_difference kind.empty violates read.made read.between.active
        (at_read kind.eager kind.lazy old.active.is_replaying (known old.active) name old.active read.between.active read.told) result new (read.reads given m driven.version driven.sees)
        (subst (λ (vm : MachineState). SettlesRead kind.lazy_difference kind.eager_difference kind.empty read.made vm result new) read.others read.settles)

    pub read_comes : (result : Result ℕ Error) (new : MachineState) → StepsOfRead kind call known name old result new → Comes given m call old (answered_as (λ handle. Answer.Handle handle) result) new
    read_comes result new steps =
        steps_of (IsStateRead kind call known name) (MissesNext kind.ty) None old driven.phase (λ (r : Result ℕ Error) (vm : MachineState). Comes given m call old (answered_as (λ handle. Answer.Handle handle) r) vm)
        (λ r vm free made. read_made r vm made) (λ error told vm some refused. cc) result new steps

-- a read is carried out
pub read_carried : {L E : Type 0} (kind : ReadKind L E) (call : Call) (known : Active → Bool) (name : Text) (old : MachineState) (result : Result ℕ Error) (new : MachineState) (outcome : CallOutcome)
    → outcome ≡ answered_as (λ handle. Answer.Handle handle) result → fixed_code kind.empty ≡ protocol_violation → ((version : ℕ) → refusal_of version call ≡ None)
    → ((n signal : ℕ) → length (ids_of n signal call) ≡ completions_of call) → ((given : Invocation) (m : Machine) → requests_passed_on given m call ≡ []) → is_run call ≡ false → StepsOfRead kind call known name old result new → CarriesOut call old outcome new
read_carried kind call known name old result new outcome is violates unrefused same alone quiet steps = λ given m driven.
    subst (λ (o : CallOutcome). Comes given m call old o new) (sym is)
    (read_comes given m call old driven (unrefused given.version) (same m.completions m.signals) (alone given m) quiet kind known name violates result new steps)
