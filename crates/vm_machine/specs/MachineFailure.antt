-- What becomes of a machine that fails.
use Rattle.std.specs.Prelude.{◌≡◌, Result}
use Rattle.std.specs.declared.alloc.AllocError.{AllocError}
use Rattle.protocol_errors.specs.declared.error.Error.{Error}
use Rattle.vm_start.specs.FailureReport.{FailsMachine}
use Rattle.vm_machine.specs.declared.machine_state.MachineState.{MachineState}

-- its phase and its output change, and nothing else
pub record MachineFails (cause : Result Error AllocError) (old : MachineState) (answer : Error) (new : MachineState) : Type 0 where
  pub fails : FailsMachine old.version old.options.journal_mismatch_retry_behavior cause old.phase old.active.output answer new.phase new.active.output
  pub others : new ≡ record old { phase = new.phase; active = record old.active { output = new.active.output } }
