-- A read that was admitted is made by its function of an attempt.
use Rattle.std.proofs.Common.{◌≡◌, ℕ, Bool, None, Result, Err, refl, subst}
use Rattle.journal_model.specs.Notification.{Text}
use Rattle.journal_model.specs.Run.{Invocation}
use Rattle.journal_model.specs.declared.call.Call.{Call}
use Rattle.attempt_model.specs.Machine.{Machine}
use Rattle.protocol_errors.specs.declared.error.Error.{Error}
use Rattle.vm_calls.specs.Active.{Sees}
use Rattle.vm_calls.specs.declared.active.Active.{Active}
use Rattle.vm_calls.specs.SpentReplay.{IsSpent}
use Rattle.vm_state_reads.specs.MismatchedReads.{FindsRead}
use Rattle.vm_state_reads.specs.ReadAnswers.{Reads}
use Rattle.vm_state_reads.specs.SpentReplay.{ReadFailsSpent}
use Rattle.vm_state_reads.specs.ReadDescriptions.{IsAtRead}
use Rattle.vm_state_reads.specs.declared.read_error.ReadError.{ReadError}
use Rattle.vm_machine.specs.CallAdmission.{Admits}
use Rattle.vm_machine.specs.declared.admitting.Admission.TheVariants.{Admitted, Elsewhere, Stopped}
use Rattle.vm_machine.specs.Calls.{checks_off}
use Rattle.vm_machine.specs.declared.machine_state.MachineState.{MachineState}
use Rattle.vm_machine.proofs.Admitted.{steps_made, steps_elsewhere, steps_stopped}
use Rattle.vm_progress.specs.StateReadEffects.{SettlesRead, MissesNext, ReadKind, IsStateRead, StepsOfRead}

module _ {L E : Type 0} (kind : ReadKind L E) (call : Call) (known : Active → Bool) (name : Text) (old between : MachineState) where
  pub read_made : (off : Bool) (made : Result ℕ (ReadError L E)) (active : Active) (result : Result ℕ Error) (new : MachineState) → Admits None old Admitted between
      → off ≡ checks_off between.options.non_determinism_checks → ((given : Invocation) (m : Machine) → Sees given between.active m → Reads off given m call between.active made active)
      → IsAtRead kind.eager kind.lazy between.active.is_replaying (known between.active) name between.active active
      → (IsSpent between.active → ReadFailsSpent between.active made active) → FindsRead kind.eager kind.lazy between.active made active
      → SettlesRead kind.lazy_difference kind.eager_difference kind.empty made (record between { active = active }) result new → StepsOfRead kind call known name old result new
  read_made off made active result new admits is reads told spent found settles = steps_made (IsStateRead kind call known name) (MissesNext kind.ty) None old between result new admits (record {
    made = made;
    between = record between { active = active };
    others = refl;
    reads = λ given m is_of sees. subst (λ (off : Bool). Reads off given m call between.active made active) is (reads given m sees);
    spent = spent;
    found = found;
    told = told;
    settles = settles;
  })

  pub read_elsewhere : (told : Error) (new : MachineState) → Admits None old Elsewhere between → MissesNext kind.ty between told new → StepsOfRead kind call known name old (Err told) new
  read_elsewhere told new admits misses = steps_elsewhere (IsStateRead kind call known name) (MissesNext kind.ty) None old between told new admits misses

  pub read_stopped : (told : Error) → Admits None old (Stopped told) between → StepsOfRead kind call known name old (Err told) between
  read_stopped told admits = steps_stopped (IsStateRead kind call known name) (MissesNext kind.ty) None old between told admits
