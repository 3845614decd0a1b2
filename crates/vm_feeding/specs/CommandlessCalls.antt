-- A function of the attempt is called that puts no command; what it could not do the machine fails with.
use Rattle.std.specs.Prelude.{◌≡◌, Result, Ok, Err}
use Rattle.std.specs.declared.alloc.AllocError.{AllocError}
use Rattle.protocol_errors.specs.declared.error.Error.{Error}
use Rattle.vm_calls.specs.declared.active.Active.{Active}
use Rattle.vm_machine.specs.MachineFailure.{MachineFails}
use Rattle.vm_machine.specs.declared.machine_state.MachineState.{MachineState}

-- the machine fails with a cause that this error has
pub record FailsOf {Lack : Type 0} (Causes : Lack → Result Error AllocError → Type 0) (lack : Lack)
    (old : MachineState) (answer : Error) (new : MachineState) : Type 0 where
  pub cause : Result Error AllocError
  pub causes : Causes lack cause
  pub fails : MachineFails cause old answer new

-- what was made is answered, and nothing more is done; or the machine fails
abbrev pub AnswersBy : {Taken Lack : Type 0} → (Causes : Lack → Result Error AllocError → Type 0) → Result Taken Lack
    → (old : MachineState) → Result Taken Error → (new : MachineState) → Type 0
AnswersBy Causes (Ok taken) old (Ok answer) new = (answer ≡ taken) × (new ≡ old)
AnswersBy Causes (Err lack) old (Err answer) new = FailsOf Causes lack old answer new
AnswersBy Causes _ old _ new = ⊥

-- The attempt does this, and nothing else of the machine changes; then that is answered, or the machine fails with why it was not
-- done.
pub record IsCalled {Taken Lack : Type 0} (Does : Active → Result Taken Lack → Active → Type 0) (Causes : Lack → Result Error AllocError → Type 0)
    (old : MachineState) (result : Result Taken Error) (new : MachineState) : Type 0 where
  pub made : Result Taken Lack
  pub active : Active
  pub does : Does old.active made active
  pub answers : AnswersBy Causes made (record old { active = active }) result new
