-- A function of the attempt was called, and that is answered.
use Rattle.std.proofs.Common.{Result}
use Rattle.std.specs.declared.alloc.AllocError.{AllocError}
use Rattle.protocol_errors.specs.declared.error.Error.{Error}
use Rattle.vm_calls.specs.declared.active.Active.{Active}
use Rattle.vm_machine.specs.declared.machine_state.MachineState.{MachineState}
use Rattle.vm_feeding.specs.CommandlessCalls.{AnswersBy, IsCalled}

pub called : {Taken Lack : Type 0} (Does : Active → Result Taken Lack → Active → Type 0) (Causes : Lack → Result Error AllocError → Type 0) (old : MachineState)
    (made : Result Taken Lack) (active : Active) (result : Result Taken Error) (new : MachineState) → Does old.active made active
    → AnswersBy Causes made (record old { active = active }) result new → IsCalled Does Causes old result new
called Does Causes old made active result new does answers = record { made = made; active = active; does = does; answers = answers }
