-- How a call goes on that was admitted, and one that was not.
use Rattle.std.proofs.Common.{◌≡◌, ℕ, Bool, List, Option, Some, None, option_map, Result, Err, refl, sym, ap, subst, ◌∙◌}
use Rattle.journal_model.specs.Notification.{Text}
use Rattle.journal_model.specs.History.{completions_of}
use Rattle.journal_model.specs.Refusal.{refusal_of}
use Rattle.journal_model.specs.Run.{Invocation}
use Rattle.journal_model.specs.declared.call.Answer.{Answer}
use Rattle.journal_model.specs.declared.call.Call.{Call}
use Rattle.attempt_model.specs.Machine.{Machine}
use Rattle.protocol_errors.specs.declared.error.Error.{Error}
use Rattle.protocol_types.specs.Version.{version_number}
use Rattle.protocol_types.specs.declared.version.Version.{Version}
use Rattle.protocol_types.specs.declared.message_type.MessageType.{MessageType}
use Rattle.vm_calls.specs.Active.{Sees, IsAtCommand}
use Rattle.vm_calls.specs.CommandCalls.{MakesCommand}
use Rattle.vm_calls.specs.SpentReplay.{IsSpent, FailsSpent}
use Rattle.vm_calls.specs.MismatchedCommands.{FindsAs}
use Rattle.vm_calls.specs.declared.active.Active.{Active}
use Rattle.vm_calls.specs.declared.call_error.CallError.{CallError}
use Rattle.vm_start.specs.Phases.{kept_error}
use Rattle.vm_refusals.specs.Refusals.{refusal_meant}
use Rattle.vm_refusals.specs.declared.refusal.CallRefusal.{CallRefusal}
use Rattle.vm_refusals.specs.declared.refusal_error.RefusalError.{RefusalError}
use Rattle.vm_machine.specs.CallAdmission.{AdmitsWhere, IsElsewhere, Admits, Carries}
use Rattle.vm_machine.specs.declared.admitting.Admission.TheVariants.{Admitted, Elsewhere, Stopped}
use Rattle.vm_machine.specs.Calls.{checks_off, IsOf, IsRefusalOf, IsMade, Calls}
use Rattle.vm_machine.specs.CallAnswers.{Settles}
use Rattle.vm_machine.specs.Steps.{Steps}
use Rattle.vm_machine.specs.declared.machine_state.MachineState.{MachineState}

-- what was admitted is not refused, and leaves the machine as it was
pub admitted_free : (kept : Option Error) (refusal : Option RefusalError) (old new : MachineState) → AdmitsWhere kept refusal old Admitted new → (refusal ≡ None) × (new ≡ old)
admitted_free (Some kept) refusal old new h = absurd h
admitted_free None (Some refusal) old new h = absurd h
admitted_free None None old new h = (refl, h.1)

-- a refusal that is told of a call, with the version that is spoken
pub refused_as : (version : Version) (number : ℕ) (call : Call) (event : List ℕ) (first : Option CallRefusal) (told : Option RefusalError) → number ≡ version_number version
    → option_map refusal_meant first ≡ refusal_of number call → Carries version first event told → IsRefusalOf version call event told
refused_as version number call event None None is first carries = sym (first ∙ ap (λ (n : ℕ). refusal_of n call) is)
refused_as version number call event None (Some error) is first carries = absurd carries
refused_as version number call event (Some refusal) None is first carries = absurd carries
refused_as version number call event (Some refusal) (Some error) is first carries =
    (sym (first ∙ ap (λ (n : ℕ). refusal_of n call) is) ∙ ap (λ (r : CallRefusal). Some (refusal_meant r)) (sym carries.0), carries.1, carries.2)

unrefused : (version : Version) (call : Call) (event : List ℕ) (told : Option RefusalError) → IsRefusalOf version call event told → told ≡ None → refusal_of (version_number version) call ≡ None
unrefused version call event None refuses is = refuses
unrefused version call event (Some error) refuses is = cc

-- so the call is not refused of this invocation
pub unrefused_of : (given : Invocation) (call : Call) (event : List ℕ) (refusal : Option RefusalError) (old new : MachineState) → IsRefusalOf old.version call event refusal
    → Admits refusal old Admitted new → IsOf given new → refusal_of given.version call ≡ None
unrefused_of given call event refusal old new refuses admits is_of =
    let free = admitted_free (kept_error old.phase) refusal old new admits in
    let same : given.version ≡ version_number old.version = is_of.version ∙ ap (λ (vm : MachineState). version_number vm.version) free.1 in
    ap (λ (n : ℕ). refusal_of n call) same ∙ unrefused old.version call event refusal refuses free.0

-- ---- the steps of any call

module _ {Taken : Type 0} (IsDone : MachineState → Result Taken Error → MachineState → Type 0) (IsMissed : MachineState → Error → MachineState → Type 0) (refusal : Option RefusalError)
    (old between : MachineState) where
  pub steps_made : (result : Result Taken Error) (new : MachineState) → Admits refusal old Admitted between → IsDone between result new → Steps IsDone IsMissed refusal old result new
  steps_made result new admits made = record { admission = Admitted; between = between; admits = admits; goes_on = made }

  pub steps_elsewhere : (told : Error) (new : MachineState) → Admits refusal old Elsewhere between → IsMissed between told new → Steps IsDone IsMissed refusal old (Err told) new
  steps_elsewhere told new admits misses = record { admission = Elsewhere; between = between; admits = admits; goes_on = misses }

  pub steps_stopped : (told : Error) → Admits refusal old (Stopped told) between → Steps IsDone IsMissed refusal old (Err told) between
  steps_stopped told admits = record { admission = Stopped told; between = between; admits = admits; goes_on = (refl, refl) }

-- ---- calls that put one command

-- the call is made by its function of an attempt
pub made_by : {M Taken : Type 0} (difference : M → M → List ℕ) (call : Call) (answer : Taken → Answer) (ty : MessageType) (name : Text) (off : Bool) (old : MachineState)
    (made : Result Taken (CallError M)) (active : Active) (result : Result Taken Error) (new : MachineState) → off ≡ checks_off old.options.non_determinism_checks
    → ((given : Invocation) (m : Machine) → IsOf given old → Sees given old.active m → MakesCommand off given m call answer old.active made active)
    → IsAtCommand ty name old.active.journal active.journal → (IsSpent old.active → FailsSpent (completions_of call) old.active made active) → FindsAs ty old.active made active
    → Settles difference made (record old { active = active }) result new → IsMade difference call answer ty name old result new
made_by {M = M} {Taken = Taken} difference call answer ty name off old made active result new is makes told spent found settles = record {
  made = made;
  between = record old { active = active };
  others = refl;
  makes = λ given m is_of sees. subst (λ (off : Bool). MakesCommand off given m call answer old.active made active) is (makes given m is_of sees);
  spent = spent;
  found = found;
  told = told;
  settles = settles;
}

module _ {M Taken : Type 0} (difference : M → M → List ℕ) (call : Call) (answer : Taken → Answer) (event : List ℕ) (ty : MessageType) (name : Text) (refusal : Option RefusalError)
    (old between : MachineState) where
  pub calls_made : (result : Result Taken Error) (new : MachineState) → IsRefusalOf old.version call event refusal → Admits refusal old Admitted between
      → IsMade difference call answer ty name between result new → Calls difference call answer event ty name old result new
  calls_made result new refuses admits made = record { refusal = refusal; refuses = refuses; steps = steps_made (IsMade difference call answer ty name) (IsElsewhere (completions_of call) ty name) refusal old between result new admits made }

  pub calls_elsewhere : (told : Error) (new : MachineState) (named : Text) → named ≡ name → IsRefusalOf old.version call event refusal → Admits refusal old Elsewhere between
      → IsElsewhere (completions_of call) ty named between told new → Calls difference call answer event ty name old (Err told) new
  calls_elsewhere told new named is refuses admits elsewhere = record {
    refusal = refusal;
    refuses = refuses;
    steps = steps_elsewhere (IsMade difference call answer ty name) (IsElsewhere (completions_of call) ty name) refusal old between told new admits (subst (λ (n : Text). IsElsewhere (completions_of call) ty n between told new) is elsewhere);
  }

  pub calls_stopped : (told : Error) → IsRefusalOf old.version call event refusal → Admits refusal old (Stopped told) between
      → Calls difference call answer event ty name old (Err told) between
  calls_stopped told refuses admits = record { refusal = refusal; refuses = refuses; steps = steps_stopped (IsMade difference call answer ty name) (IsElsewhere (completions_of call) ty name) refusal old between told admits }
