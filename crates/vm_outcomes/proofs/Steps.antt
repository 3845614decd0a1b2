-- What stands before a call of a machine of which calls are made.
use Rattle.std.proofs.Common.{◌≡◌, true, false, Option, Some, None, Result, Err, refl, sym, ap, subst, ◌∙◌}
use Rattle.protocol_errors.specs.declared.error.Error.{Error}
use Rattle.vm_start.specs.Phases.{kept_error}
use Rattle.vm_start.specs.declared.phase.Phase.TheVariants as phases
use Rattle.vm_refusals.specs.declared.refusal_error.RefusalError.{RefusalError}
use Rattle.vm_machine.specs.CallAdmission.{is_active, IsRefused, AdmitsWhere}
use Rattle.vm_machine.specs.Steps.{GoesOn, Steps}
use Rattle.vm_machine.specs.declared.admitting.Admission.{Admission}
use Rattle.vm_machine.specs.declared.admitting.Admission.TheVariants.{Admitted, Elsewhere, Stopped}
use Rattle.vm_machine.specs.declared.machine_state.MachineState.{MachineState}

module _ {Taken : Type 0} (Makes : MachineState → Result Taken Error → MachineState → Type 0) (Misses : MachineState → Error → MachineState → Type 0) (refusal : Option RefusalError)
    (old : MachineState) (is : old.phase ≡ phases.Active) (Goal : Result Taken Error → MachineState → Type 0)
    (made : (result : Result Taken Error) (new : MachineState) → refusal ≡ None → Makes old result new → Goal result new)
    (refused : (error : RefusalError) (answer : Error) (new : MachineState) → refusal ≡ Some error → IsRefused error old answer new → Goal (Err answer) new) where
  step_by : (kept : Option Error) (told : Option RefusalError) (admission : Admission) (between : MachineState) (result : Result Taken Error) (new : MachineState) → kept ≡ None → refusal ≡ told
      → AdmitsWhere kept told old admission between → GoesOn Makes Misses admission between result new → Goal result new
  step_by (Some kept) told admission between result new none same admits goes_on = cc
  step_by None None Admitted between result new none same admits goes_on = made result new same (subst (λ (vm : MachineState). Makes vm result new) admits.1 goes_on)
  step_by None None Elsewhere between result new none same admits goes_on =
      let wrong : true ≡ false = sym (ap is_active is) ∙ admits.0 in cc
  step_by None None (Stopped answer) between result new none same admits goes_on = absurd admits
  step_by None (Some error) Admitted between result new none same admits goes_on = absurd admits
  step_by None (Some error) Elsewhere between result new none same admits goes_on = absurd admits
  step_by None (Some error) (Stopped answer) between result new none same admits goes_on =
      subst (λ (r : Result Taken Error). Goal r new) (sym goes_on.0)
      (subst (λ (vm : MachineState). Goal (Err answer) vm) (sym goes_on.1) (refused error answer between same admits))

  -- calls are made of it, so the call is made or refused
  pub steps_of : (result : Result Taken Error) (new : MachineState) → Steps Makes Misses refusal old result new → Goal result new
  steps_of result new steps = step_by (kept_error old.phase) refusal steps.admission steps.between result new (ap kept_error is) refl steps.admits steps.goes_on
