-- A machine fails, and nobody is answered.
use Rattle.std.specs.Prelude.{Result}
use Rattle.std.specs.declared.alloc.AllocError.{AllocError}
use Rattle.protocol_errors.specs.declared.error.Error.{Error}
use Rattle.vm_machine.specs.MachineFailure.{MachineFails}
use Rattle.vm_machine.specs.declared.machine_state.MachineState.{MachineState}

-- it fails with this; one that has failed stays as it is
pub record HasFailed (cause : Result Error AllocError) (old new : MachineState) : Type 0 where
  pub answer : Error
  pub fails : MachineFails cause old answer new
