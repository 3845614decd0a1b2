-- What becomes of the runs that a machine keeps, where a call is answered.
use Rattle.std.specs.Prelude.{if◌then◌else◌, Result, IfOk}
use Rattle.journal_model.specs.Run.{Invocation}
use Rattle.journal_model.specs.declared.call.Call.{Call}
use Rattle.attempt_model.specs.Machine.{Machine, next_slot}
use Rattle.body_laws.specs.Bodies.{has_come}
use Rattle.protocol_errors.specs.declared.error.Error.{Error}
use Rattle.protocol_types.specs.declared.message_type.MessageType.TheVariants.{RunCommand}
use Rattle.vm_calls.specs.Active.{Sees}
use Rattle.vm_context.specs.Journal.{JournalCounts, after_command}
use Rattle.vm_machine.specs.declared.machine_state.MachineState.{MachineState}
use Rattle.vm_proposals.specs.RunRegistration.{last_run_asked}
use Rattle.vm_runs.specs.Runs.{Runs, with_run}
pub use Rattle.vm_proposals.specs.RunCallEffects.{KeepsBodiesOf}

-- a run is kept, to be executed, exactly where its outcome has not come; of any other call nothing is
abbrev pub runs_after : Machine → Call → JournalCounts → Runs → Runs
runs_after m (Call.Run name) journal runs = if has_come m m.completions then runs else with_run (next_slot m) (last_run_asked m.completions (after_command RunCommand name journal)) runs
runs_after m call journal runs = runs

-- the bodies behind the call are those before it and the one that it leaves, seen by each abstract machine that was seen before
abbrev pub BodiesAreKept : {Taken : Type 0} → Call → (old : MachineState) → Result Taken Error → (new : MachineState) → Type 0
BodiesAreKept call old result new = IfOk result (λ taken. (given : Invocation) (m : Machine) → Sees given old.active m → KeepsBodiesOf m call old.runs new.runs)
