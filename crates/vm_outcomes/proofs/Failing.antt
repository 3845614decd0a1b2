-- A call that fails has a cause, and the machine fails with it.
use Rattle.std.proofs.Common.{◌≡◌, ◌==◌, inl, inr, ℕ, true, false, List, [], append-nil, Option, Some, Result, Ok, Err, IfOk, refl, sym, ap, subst, ◌∙◌}
use Rattle.std.specs.declared.alloc.AllocError.{AllocError}
use Rattle.journal_model.specs.Notification.{Bytes}
use Rattle.journal_model.specs.Refusal.{Refusal, refusal_of}
use Rattle.journal_model.specs.Request.{Request}
use Rattle.journal_model.specs.Run.{Invocation}
use Rattle.journal_model.specs.declared.call.Call.{Call}
use Rattle.attempt_model.specs.Machine.{Machine, FailedBy, Mismatch, UncompletedInReplay, EndInReplay, KeysNotText, ChildNotId, Refused, reply_unless_refused}
use Rattle.attempt_model.specs.Requests.{Commands}
use Rattle.attempt_model.specs.Results.{Slots}
use Rattle.protocol_errors.specs.Code.{suspended}
use Rattle.protocol_errors.specs.declared.error.Error.{Error}
use Rattle.protocol_types.specs.declared.version.Version.{Version}
use Rattle.vm_awaits.specs.Views.{slots_of}
use Rattle.vm_calls.specs.Active.{writes_frames}
use Rattle.vm_calls.specs.declared.active.Active.{Active}
use Rattle.vm_commands.specs.HeaderEquality.{same_header}
use Rattle.vm_context.specs.Journal.{JournalCounts}
use Rattle.vm_context.specs.Output.{Written}
use Rattle.vm_start.specs.FailureReport.{FailsAs, FailsNow}
use Rattle.vm_start.specs.Phases.{kept_error}
use Rattle.vm_start.specs.declared.phase.Phase.TheVariants as phases
use Rattle.vm_progress.specs.UncompletedAwaits.{started_id}
use Rattle.vm_refusals.specs.Refusals.{refusal_meant, refusal_code, refusal_text, text_of_refusal}
use Rattle.vm_runs.specs.Runs.{Runs}
use Rattle.vm_refusals.specs.declared.refusal_error.RefusalError.{RefusalError}
use Rattle.vm_machine.specs.CallAdmission.{IsRefused}
use Rattle.vm_machine.specs.Calls.{checks_off}
use Rattle.vm_machine.specs.MachineFailure.{MachineFails}
use Rattle.vm_machine.specs.declared.machine_state.MachineState.{MachineState}
use Rattle.vm_machine.specs.Causes.{TellsPlainError, TellsLast, Unless}
use Rattle.vm_outcomes.specs.CallOutcomes.{Fails}
use Rattle.vm_outcomes.specs.Causes.{Cause, ByFault, NoNumber, TooLong, TooDeep, NoReplay, NoMemory, FailsAt, AreRequestsAsked, IsAsBefore, IsLookedAt, LeavesPartly, Unmatched, IsUnmatched, unmatched_code, unmatched_text, TellsEither, FaultTells, CauseTells, moment_event, HasCause}
use Rattle.vm_outcomes.specs.DrivenMachine.{reply_of}
use Rattle.vm_outcomes.specs.PartialCalls.{HasPut, requests_passed_on, IsUnmatchedNext}
use Rattle.vm_outcomes.proofs.Answering.{MayBe, nothing_written}

-- ---- what is told

pub told_last : (journal : JournalCounts) (code : ℕ) (text : Option (List ℕ)) (told : Result Error AllocError) → Unless false (TellsLast journal code text) told → IfOk told (λ error. TellsEither journal code text error)
told_last journal code text (Ok error) tells = inr tells
told_last journal code text (Err refused) tells = tt

pub told_plain : (journal : JournalCounts) (code : ℕ) (text : Option (List ℕ)) (told : Result Error AllocError) → IfOk told (TellsPlainError code text) → IfOk told (λ error. TellsEither journal code text error)
told_plain journal code text (Ok error) tells = inl tells
told_plain journal code text (Err refused) tells = tt

pub plain_code : (code : ℕ) (text : Option (List ℕ)) (told : Result Error AllocError) → IfOk told (TellsPlainError code text) → IfOk told (λ error. error.code.0 ≡ code)
plain_code code text (Ok error) tells = ap (λ (e : Error). e.code.0) tells.plain
plain_code code text (Err refused) tells = tt

-- of another code than a suspension's
pub code_apart : (code : ℕ) (told : Result Error AllocError) → (code == suspended) ≡ false → IfOk told (λ error. error.code.0 ≡ code) → IfOk told (λ error. (error.code.0 == suspended) ≡ false)
code_apart code (Ok error) other is = ap (λ (n : ℕ). n == suspended) is ∙ other
code_apart code (Err refused) other is = tt

pub unless_plain : (journal : JournalCounts) (code : ℕ) (text : Option (List ℕ)) (told : Result Error AllocError) → Unless false (TellsPlainError code text) told → IfOk told (λ error. TellsEither journal code text error)
unless_plain journal code text (Ok error) tells = inl tells
unless_plain journal code text (Err refused) tells = tt

-- of a recorded command that is not the call's
mismatch_told : (version : Version) (invocation : Bytes) (left : Commands) (journal : JournalCounts) (slots : Slots) (runs : Runs) (call : Call) (why : Unmatched) (told : Result Error AllocError) → IsUnmatched left why
    → Unless false (TellsLast journal (unmatched_code why) (Some (unmatched_text why))) told → IfOk told (λ error. FaultTells version invocation left journal slots runs call Mismatch error)
mismatch_told version invocation left journal slots runs call why (Ok error) is tells = (why, (is, tells))
mismatch_told version invocation left journal slots runs call why (Err refused) is tells = tt

-- ---- what is left

-- only what has come was looked at
pub looked_at : (old new : Active) → new ≡ record old { results = new.results } → IsLookedAt old new
looked_at old new others = others ∙ sym (ap (λ (a : Active). record old { results = new.results; output = a.output }) others)

-- then no command was asked for
pub looked_asked : (old new : Active) → IsLookedAt old new → AreRequestsAsked [] old.journal new.journal
looked_asked old new looked = inl (record {
  commands = ap (λ (a : Active). a.journal.commands) looked;
  last_type = ap (λ (a : Active). a.journal.last_type) looked;
  last_name = ap (λ (a : Active). a.journal.last_name) looked;
})

-- what is written then changes none of that
before_on : (old between new : Active) → new ≡ record between { output = new.output } → IsAsBefore old between → IsAsBefore old new
before_on old between new others before = others ∙ ap (λ (a : Active). record a { output = new.output }) before

looked_on : (old between new : Active) → new ≡ record between { output = new.output } → IsLookedAt old between → IsLookedAt old new
looked_on old between new others looked =
    others ∙ ap (λ (a : Active). record a { output = new.output }) looked ∙ sym (ap (λ (a : Active). record old { results = a.results; output = new.output }) others)

asked_on : (front : List Request) (old between new : Active) → new ≡ record between { output = new.output } → AreRequestsAsked front old.journal between.journal → AreRequestsAsked front old.journal new.journal
asked_on front old between new others asked = subst (λ (journal : JournalCounts). AreRequestsAsked front old.journal journal) (sym (ap (λ (a : Active). a.journal) others)) asked

leaves_on : (cause : Cause) (front : List Request) (old between new : Active) → new ≡ record between { output = new.output } → LeavesPartly cause front old between → LeavesPartly cause front old new
leaves_on (ByFault Mismatch) front old between new others leaves = asked_on front old between new others leaves
leaves_on (ByFault UncompletedInReplay) front old between new others leaves = looked_on old between new others leaves
leaves_on (ByFault EndInReplay) front old between new others leaves = before_on old between new others leaves
leaves_on (ByFault KeysNotText) front old between new others leaves = looked_on old between new others leaves
leaves_on (ByFault ChildNotId) front old between new others leaves = looked_on old between new others leaves
leaves_on (ByFault (Refused refusal)) front old between new others leaves = before_on old between new others leaves
leaves_on NoNumber front old between new others leaves = asked_on front old between new others leaves
leaves_on TooLong front old between new others leaves = asked_on front old between new others leaves
leaves_on TooDeep front old between new others leaves = looked_on old between new others leaves
leaves_on NoReplay front old between new others leaves = before_on old between new others leaves
leaves_on NoMemory front old between new others leaves = asked_on front old between new others leaves

-- ---- causes

module _ (given : Invocation) (m : Machine) (call : Call) (vm : MachineState) where
  -- none of its requests was put
  abbrev pub none_put : HasPut given m call vm
  none_put = record {
    front = [];
    behind = requests_passed_on given m call;
    parts = refl;
    put = record { left = m.left; written = m.written };
    puts = refl;
    more = [];
    written = sym (append-nil m.written);
    fit = tt;
  }

  module _ (far : HasPut given m call vm) (after : Active) (asked : AreRequestsAsked far.front vm.active.journal after.journal) where
    pub memory_lacks : (told : Result Error AllocError) → IfOk told (λ error. ⊥) → HasCause given m call vm far after told
    memory_lacks (Ok error) none = absurd none
    memory_lacks (Err refused) none = record { cause = NoMemory; when = tt; at = tt; tells = tt; leaves = asked }

    pub mismatches_at : (why : Unmatched) (told : Result Error AllocError) → reply_of vm given m call ≡ FailedBy Mismatch → FailsAt given m call vm far (ByFault Mismatch) → IsUnmatched far.put.left why
        → Unless false (TellsLast after.journal (unmatched_code why) (Some (unmatched_text why))) told → HasCause given m call vm far after told
    mismatches_at why told replies at is tells = record {
      cause = ByFault Mismatch;
      when = replies;
      at = at;
      tells = mismatch_told vm.version (started_id vm.start) far.put.left after.journal (slots_of after.results) vm.runs call why told is tells;
      leaves = asked;
    }

pub unless_ok : (told : Result Error AllocError) → Unless true (λ error. ⊥) told → IfOk told (λ error. ⊥)
unless_ok (Ok error) none = none
unless_ok (Err refused) none = tt

module _ (given : Invocation) (m : Machine) (call : Call) (vm : MachineState) (after : Active) (asked : AreRequestsAsked [] vm.active.journal after.journal) where
  pub no_memory : (told : Result Error AllocError) → Unless true (λ error. ⊥) told → HasCause given m call vm (none_put given m call vm) after told
  no_memory told none = memory_lacks given m call vm (none_put given m call vm) after asked told (unless_ok told none)

  pub memory_cause : (told : Result Error AllocError) → IfOk told (λ error. ⊥) → HasCause given m call vm (none_put given m call vm) after told
  memory_cause told none = memory_lacks given m call vm (none_put given m call vm) after asked told none

  -- of a call that passes no cancellation on
  pub mismatches : requests_passed_on given m call ≡ [] → (why : Unmatched) (told : Result Error AllocError) → reply_of vm given m call ≡ FailedBy Mismatch → IsUnmatched m.left why
      → Unless false (TellsLast after.journal (unmatched_code why) (Some (unmatched_text why))) told → HasCause given m call vm (none_put given m call vm) after told
  mismatches none why told replies is tells =
      mismatches_at given m call vm (none_put given m call vm) after asked why told replies
      (subst (λ (behind : List Request). IsUnmatchedNext given m call vm behind (record { left = m.left; written = m.written })) (sym none) tt) is tells

-- ---- the machine fails

pub fails_of : (told : Result Error AllocError) (old : MachineState) (answer : Error) (new : MachineState) → old.phase ≡ phases.Active → MachineFails told old answer new
    → FailsNow old.version old.options.journal_mismatch_retry_behavior told old.active.output answer new.phase new.active.output
fails_of told old answer new is fails =
    subst (λ (kept : Option Error). FailsAs old.version old.options.journal_mismatch_retry_behavior told kept old.phase old.active.output answer new.phase new.active.output) (ap kept_error is) fails.fails

refusal_tells : (version : Version) (invocation : Bytes) (left : Commands) (journal : JournalCounts) (slots : Slots) (runs : Runs) (call : Call) (error : RefusalError) (told : Result Error AllocError) → error.version ≡ version → error.event.now ≡ moment_event call
    → IfOk told (TellsPlainError (refusal_code error.refusal) (Some (refusal_text error))) → IfOk told (λ e. FaultTells version invocation left journal slots runs call (Refused (refusal_meant error.refusal)) e)
refusal_tells version invocation left journal slots runs call error (Ok e) speaks names tells = (
  error.refusal,
  (
    refl,
    subst (λ (v : Version). TellsPlainError (refusal_code error.refusal) (Some (text_of_refusal error.refusal v (moment_event call))) e) speaks
        (subst (λ (event : List ℕ). TellsPlainError (refusal_code error.refusal) (Some (text_of_refusal error.refusal error.version event)) e) names tells),
  ),
)
refusal_tells version invocation left journal slots runs call error (Err refused) speaks names tells = tt

module _ (given : Invocation) (m : Machine) (call : Call) (old : MachineState) (is : old.phase ≡ phases.Active) where
  -- what is written changes no cause
  written_on : (told : Result Error AllocError) (far : HasPut given m call old) (active new : Active) → new ≡ record active { output = new.output } → HasCause given m call old far active told
      → HasCause given m call old far new told
  written_on told far active new others has = record {
    cause = has.cause;
    when = has.when;
    at = has.at;
    tells = subst (λ (a : Active). IfOk told (λ error. CauseTells old.version (started_id old.start) far.put.left a.journal (slots_of a.results) old.runs call has.cause error)) (sym others) has.tells;
    leaves = leaves_on has.cause far.front old.active active new others has.leaves;
  }

  may_be : (runs new : Runs) → new ≡ runs → MayBe m call old runs → MayBe m call old new
  may_be runs new same (inl is) = inl (same ∙ is)
  may_be runs new same (inr is) = inr (same ∙ is)

  -- where some of its requests were put
  pub failed_keeping : (told : Result Error AllocError) (far : HasPut given m call old) (active : Active) (runs : Runs) (answer : Error) (new : MachineState) → HasCause given m call old far active told
      → active.output ≡ writes_frames far.more old.active.output → MayBe m call old runs → MachineFails told (record old { active = active; runs = runs }) answer new → Fails given m call old answer new
  failed_keeping told far active runs answer new has_cause written may fails = record {
    told = told;
    far = far;
    has_cause = written_on told far active new.active (ap (λ (vm : MachineState). vm.active) fails.others) has_cause;
    fails = subst (λ (w : Written). FailsNow old.version old.options.journal_mismatch_retry_behavior told w answer new.phase new.active.output) written
        (fails_of told (record old { active = active; runs = runs }) answer new is fails);
    runs = may_be runs new.runs (ap (λ (vm : MachineState). vm.runs) fails.others) may;
    others = fails.others ∙ sym (ap (λ (vm : MachineState). record old { phase = new.phase; active = vm.active; runs = vm.runs }) fails.others);
  }

  pub failed_behind : (told : Result Error AllocError) (far : HasPut given m call old) (active : Active) (answer : Error) (new : MachineState) → HasCause given m call old far active told
      → active.output ≡ writes_frames far.more old.active.output → MachineFails told (record old { active = active }) answer new → Fails given m call old answer new
  failed_behind told far active answer new has_cause written fails = failed_keeping told far active old.runs answer new has_cause written (inl refl) fails

  -- where none was
  pub failed_alone : (told : Result Error AllocError) (active : Active) (runs : Runs) (answer : Error) (new : MachineState) → HasCause given m call old (none_put given m call old) active told
      → active.output ≡ old.active.output → MayBe m call old runs → MachineFails told (record old { active = active; runs = runs }) answer new → Fails given m call old answer new
  failed_alone told active runs answer new has_cause unwritten may fails =
      failed_keeping told (none_put given m call old) active runs answer new has_cause (unwritten ∙ nothing_written old.active.output) may fails

  pub failed : (told : Result Error AllocError) (active : Active) (answer : Error) (new : MachineState) → HasCause given m call old (none_put given m call old) active told
      → active.output ≡ old.active.output → MachineFails told (record old { active = active }) answer new → Fails given m call old answer new
  failed told active answer new has_cause unwritten fails = failed_alone told active old.runs answer new has_cause unwritten (inl refl) fails

  -- a call that is refused
  pub refused_cause : (error : RefusalError) (answer : Error) (runs : Runs) (new : MachineState) → refusal_of given.version call ≡ Some (refusal_meant error.refusal) → error.version ≡ old.version
      → error.event.now ≡ moment_event call → (is_refused : IsRefused error (record old { runs = runs }) answer new) → HasCause given m call old (none_put given m call old) old.active is_refused.cause
  refused_cause error answer runs new refuses speaks names is_refused = record {
    cause = ByFault (Refused (refusal_meant error.refusal));
    when = ap (λ (r : Option Refusal). reply_unless_refused (same_header (checks_off old.options.non_determinism_checks) call) given m call r) refuses;
    at = tt;
    tells = refusal_tells old.version (started_id old.start) m.left old.active.journal (slots_of old.active.results) old.runs call error is_refused.cause speaks names is_refused.causes;
    leaves = refl;
  }

  pub refused_call : (error : RefusalError) (runs : Runs) (answer : Error) (new : MachineState) → refusal_of given.version call ≡ Some (refusal_meant error.refusal) → error.version ≡ old.version
      → error.event.now ≡ moment_event call → MayBe m call old runs → IsRefused error (record old { runs = runs }) answer new → Fails given m call old answer new
  refused_call error runs answer new refuses speaks names may is_refused =
      failed_alone is_refused.cause old.active runs answer new (refused_cause error answer runs new refuses speaks names is_refused) refl may is_refused.fails
