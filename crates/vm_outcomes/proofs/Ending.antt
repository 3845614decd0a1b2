-- The end is carried out.
use Rattle.std.proofs.Common.{◌≡◌, inl, inr, ◌∷◌, ℕ, Bool, true, false, List, [], codes, Option, Result, Ok, Err, IfOk, refl, sym, ap, subst, ◌∙◌}
use Rattle.std.proofs.lemmas.Bool.{cases_Bool}
use Rattle.journal_model.specs.Run.{Invocation}
use Rattle.journal_model.specs.declared.call.Call.{Call}
use Rattle.attempt_model.specs.Machine.{Machine, EndInReplay, Finished, FailedBy, reply_to_end}
use Rattle.attempt_model.specs.Requests.{Commands}
use Rattle.protocol_errors.specs.declared.error.Error.{Error}
use Rattle.protocol_stream.specs.declared.encoder.EncodingError.{EncodingError}
use Rattle.protocol_stream.specs.declared.encoder.EncodingError.TheVariants as unsent
use Rattle.protocol_types.specs.declared.message_type.MessageType.TheVariants as messages
use Rattle.vm_calls.specs.Active.{has_left}
use Rattle.vm_context.specs.Output.{Written}
use Rattle.vm_start.specs.Phases.{kept_error, unexpected_error}
use Rattle.vm_start.specs.declared.phase.Phase.{Phase}
use Rattle.vm_start.specs.declared.phase.Phase.TheVariants as phases
use Rattle.vm_machine.specs.Steps.{IsUnexpected}
use Rattle.vm_machine.specs.declared.machine_state.MachineState.{MachineState}
use Rattle.vm_progress.specs.EndEffects.{end_place, ClosesEnd, WritesEnd, EndsAt, EndsAs}
use Rattle.vm_progress.specs.declared.ending.EndPlace.{EndPlace}
use Rattle.vm_progress.specs.declared.ending.EndPlace.TheVariants.{Elsewhere}
use Rattle.vm_waiting.specs.SuspensionFrames.{WritesFrame}
use Rattle.vm_outcomes.specs.CallOutcomes.{Ends, Comes, CarriesOut}
use Rattle.vm_outcomes.specs.Causes.{ByFault}
use Rattle.vm_outcomes.specs.DrivenMachine.{IsDriven}
use Rattle.vm_outcomes.specs.Outcomes.{ended_as}
use Rattle.vm_outcomes.specs.declared.outcome.CallOutcome.{CallOutcome}
use Rattle.vm_outcomes.proofs.Failing.{memory_cause, failed}

ends_behind : (m : Machine) (left : Commands) → has_left left ≡ false → reply_to_end m left ≡ Finished m
ends_behind m [] none = refl
ends_behind m (command ∷ left) none = cc

ends_before : (m : Machine) (left : Commands) → has_left left ≡ true → reply_to_end m left ≡ FailedBy EndInReplay
ends_before m [] some = cc
ends_before m (command ∷ left) some = refl

unexpected_at : (phase : Phase) (is_replaying : Bool) (event : List ℕ) → phase ≡ phases.Active → is_replaying ≡ true → unexpected_error phase is_replaying event ≡ unexpected_error phases.Active true event
unexpected_at phase is_replaying event is replays = ap (λ (p : Phase). unexpected_error p is_replaying event) is ∙ ap (λ (b : Bool). unexpected_error phases.Active b event) replays

module _ (given : Invocation) (m : Machine) (old : MachineState) (driven : IsDriven given m old) where
  unwritten : (error : EncodingError) (output : Written) → WritesFrame messages.End [] old.active.output (Err error) output → output ≡ old.active.output
  unwritten unsent.PayloadTooLong output writes = writes.1
  unwritten unsent.OutOfMemory output writes = writes

  ends : (written : Result (Unit {0}) EncodingError) (output : Written) (result : Result (Unit {0}) Error) (new : MachineState) → old.active.is_replaying ≡ false
      → WritesFrame messages.End [] old.active.output written output → ClosesEnd written (record old { active = record old.active { output = output } }) result new
      → Comes given m Call.End old (ended_as result) new
  ends (Ok done) output (Ok ended) new behind writes closes =
      subst (λ (vm : MachineState). Ends given m Call.End old vm) (sym closes) (record {
        replies = ends_behind m m.left (sym driven.sees.replaying ∙ behind);
        output = ap (λ (w : Written). record w { is_closed = true }) writes.1;
        others = refl;
      })
  ends (Ok done) output (Err answer) new behind writes closes = absurd closes
  ends (Err error) output (Ok ended) new behind writes closes = absurd closes
  ends (Err error) output (Err answer) new behind writes closes =
      failed given m Call.End old driven.phase closes.cause (record old.active { output = output }) answer new (memory_cause given m Call.End old (record old.active { output = output }) (inl (record { commands = refl; last_type = refl; last_name = refl })) closes.cause closes.causes) (unwritten error output writes) closes.fails

  fails_before : (answer : Error) (new : MachineState) → old.active.is_replaying ≡ true → IsUnexpected (codes "end invocation") old answer new → Comes given m Call.End old (ended_as (Err answer)) new
  fails_before answer new replays unexpected = failed given m Call.End old driven.phase unexpected.cause old.active answer new (record {
    cause = ByFault EndInReplay;
    when = ends_before m m.left (sym driven.sees.replaying ∙ replays);
    at = tt;
    tells = subst (λ (e : Error). IfOk unexpected.cause (λ told. told ≡ e)) (unexpected_at old.phase old.active.is_replaying (codes "end invocation") driven.phase replays) unexpected.causes;
    leaves = refl;
  }) refl unexpected.fails

  elsewhere : (result : Result (Unit {0}) Error) (new : MachineState) → old.active.is_replaying ≡ true → EndsAt Elsewhere old result new → Comes given m Call.End old (ended_as result) new
  elsewhere (Ok done) new replays ends_at = absurd ends_at
  elsewhere (Err answer) new replays ends_at = fails_before answer new replays ends_at

  place_of : (is_replaying : Bool) → old.active.is_replaying ≡ is_replaying → end_place old.phase old.active.is_replaying ≡ end_place phases.Active is_replaying
  place_of is_replaying is = ap (λ (p : Phase). end_place p old.active.is_replaying) driven.phase ∙ ap (λ (b : Bool). end_place phases.Active b) is

  end_comes : (result : Result (Unit {0}) Error) (new : MachineState) → EndsAs (kept_error old.phase) old result new → Comes given m Call.End old (ended_as result) new
  end_comes result new ends_as =
      let at : EndsAt (end_place old.phase old.active.is_replaying) old result new = subst (λ (kept : Option Error). EndsAs kept old result new) (ap kept_error driven.phase) ends_as in
      elim (cases_Bool old.active.is_replaying) [
        | inl t ↦ elsewhere result new t (subst (λ (place : EndPlace). EndsAt place old result new) (place_of true t) at)
        | inr f ↦ (let ended : WritesEnd old result new = subst (λ (place : EndPlace). EndsAt place old result new) (place_of false f) at in ends ended.written ended.output result new f ended.writes ended.closes)
      ]

-- the end is carried out
pub end_carried : (old : MachineState) (result : Result (Unit {0}) Error) (new : MachineState) (outcome : CallOutcome) → outcome ≡ ended_as result → EndsAs (kept_error old.phase) old result new
    → CarriesOut Call.End old outcome new
end_carried old result new outcome is ends_as = λ given m driven.
    subst (λ (o : CallOutcome). Comes given m Call.End old o new) (sym is) (end_comes given m old driven result new ends_as)
