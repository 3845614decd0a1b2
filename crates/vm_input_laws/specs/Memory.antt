-- A machine for which there was no memory.
use Rattle.std.specs.Prelude.{◌≡◌}
use Rattle.vm_start.specs.FailureReport.{out_of_memory, ended}
use Rattle.vm_start.specs.declared.phase.Phase.TheVariants.{Failed}
use Rattle.vm_machine.specs.declared.machine_state.MachineState.{MachineState}

-- it has failed for want of memory, and has written nothing of that
pub record FailsForMemory (old new : MachineState) : Type 0 where
  pub phase : new.phase ≡ Failed out_of_memory
  pub output : new.active.output ≡ ended old.active.output
