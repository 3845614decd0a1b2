-- What stands before a call, and then the call itself.
use Rattle.std.specs.Prelude.{◌≡◌, ◌⊎◌, List, ℕ, Option, Some, Result, Ok, Err, IfOk}
use Rattle.std.specs.declared.alloc.AllocError.{AllocError}
use Rattle.protocol_errors.specs.Code.{internal}
use Rattle.protocol_errors.specs.declared.error.Error.{Error}
use Rattle.vm_machine.specs.Causes.{TellsPlainError}
use Rattle.vm_start.specs.Phases.{unexpected_error}
use Rattle.vm_context.specs.Journal.{no_id_text}
use Rattle.vm_refusals.specs.declared.refusal_error.RefusalError.{RefusalError}
use Rattle.vm_machine.specs.CallAdmission.{Admits}
use Rattle.vm_machine.specs.MachineFailure.{MachineFails}
use Rattle.vm_machine.specs.declared.admitting.Admission.{Admission}
use Rattle.vm_machine.specs.declared.admitting.Admission.TheVariants.{Admitted, Elsewhere, Stopped}
use Rattle.vm_machine.specs.declared.machine_state.MachineState.{MachineState}

-- the machine fails with this cause, of which this is known where memory was not refused
pub record FailsBy (Causes : Error → Type 0) (old : MachineState) (answer : Error) (new : MachineState) : Type 0 where
  pub cause : Result Error AllocError
  pub causes : IfOk cause Causes
  pub fails : MachineFails cause old answer new

-- the call that this names is none for the machine in its phase; no command is counted
abbrev pub IsUnexpected : (event : List ℕ) → (old : MachineState) → Error → (new : MachineState) → Type 0
IsUnexpected event old answer new = FailsBy (λ told. told ≡ unexpected_error old.phase old.active.is_replaying event) old answer new

-- no number is left; the error is about no command
abbrev pub IsExhausted : (old : MachineState) → Error → (new : MachineState) → Type 0
IsExhausted old answer new = FailsBy (TellsPlainError internal (Some no_id_text)) old answer new

-- the call that this names puts no command: that a number is lacking is told before that it is none for the machine in its phase
abbrev pub IsMissed : (Lacks : Type 0) → (event : List ℕ) → (old : MachineState) → Error → (new : MachineState) → Type 0
IsMissed Lacks event old answer new = (Lacks × IsExhausted old answer new) ⊎ ((Lacks → ⊥) × IsUnexpected event old answer new)

module _ {Taken : Type 0} (Makes : MachineState → Result Taken Error → MachineState → Type 0) (Misses : MachineState → Error → MachineState → Type 0) where
  -- what was admitted is made; where no calls are made it fails so; what was stopped is answered
  abbrev pub GoesOn : Admission → (between : MachineState) → Result Taken Error → (new : MachineState) → Type 0
  GoesOn Admitted between result new = Makes between result new
  GoesOn Elsewhere between (Ok taken) new = ⊥
  GoesOn Elsewhere between (Err answer) new = Misses between answer new
  GoesOn (Stopped answer) between result new = (result ≡ Err answer) × (new ≡ between)

  -- One that has failed answers that again; then a refusal is told; then the call is made, or there is none in this phase.
  pub record Steps (refusal : Option RefusalError) (old : MachineState) (result : Result Taken Error) (new : MachineState) : Type 0 where
    pub admission : Admission
    pub between : MachineState
    pub admits : Admits refusal old admission between
    pub goes_on : GoesOn admission between result new
