-- What a machine answers of a call that was made, or was not.
use Rattle.std.specs.Prelude.{◌≡◌, ℕ, List, Result, Ok, Err}
use Rattle.std.specs.declared.alloc.AllocError.{AllocError}
use Rattle.protocol_errors.specs.declared.error.Error.{Error}
use Rattle.vm_machine.specs.Causes.{CallCauses}
use Rattle.vm_calls.specs.declared.call_error.CallError.{CallError}
use Rattle.vm_machine.specs.MachineFailure.{MachineFails}
use Rattle.vm_machine.specs.declared.machine_state.MachineState.{MachineState}

-- the machine fails with this error of a call's command
pub record FailsWith {M : Type 0} (difference : M → M → List ℕ) (error : CallError M) (old : MachineState) (answer : Error) (new : MachineState) : Type 0 where
  pub cause : Result Error AllocError
  pub causes : CallCauses difference old.active.journal error cause
  pub fails : MachineFails cause old answer new

abbrev pub Settles : {M T : Type 0} → (difference : M → M → List ℕ) → Result T (CallError M) → (old : MachineState) → Result T Error → (new : MachineState) → Type 0
Settles difference (Ok taken) old (Ok answer) new = (answer ≡ taken) × (new ≡ old)
Settles difference (Err error) old (Err answer) new = FailsWith difference error old answer new
Settles difference _ old _ new = ⊥
