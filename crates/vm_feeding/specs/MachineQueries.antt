-- What is asked of a machine.
use Rattle.std.specs.Prelude.{◌≡◌, ℕ, Bool, true, false, List, codes, Result, Ok, Err}
use Rattle.std.specs.declared.alloc.AllocError.{AllocError}
use Rattle.protocol_errors.specs.declared.error.Error.{Error}
use Rattle.vm_context.specs.Output.{all_taken}
use Rattle.vm_start.specs.FailureReport.{IsCopy}
use Rattle.vm_start.specs.Phases.{closed_error}
use Rattle.vm_start.specs.declared.phase.Phase.{Phase}
use Rattle.vm_start.specs.declared.phase.Phase.TheVariants as phases
use Rattle.vm_machine.specs.declared.machine_state.MachineState.{MachineState}
use Rattle.vm_types.specs.declared.answers.State.{State}
use Rattle.vm_types.specs.declared.answers.State.TheVariants as states

abbrev pub active_state : (is_replaying : Bool) → State
active_state true = states.Replaying
active_state false = states.Processing

-- how far it has come; one that has failed is closed
abbrev pub state_of_phase : Phase → (is_replaying : Bool) → State
state_of_phase phases.WaitingStart is_replaying = states.WaitingPreFlight
state_of_phase (phases.WaitingReplayEntries left) is_replaying = states.WaitingPreFlight
state_of_phase phases.Active is_replaying = active_state is_replaying
state_of_phase phases.Closed is_replaying = states.Closed
state_of_phase (phases.Failed error) is_replaying = states.Closed

-- the answer is this error, or that memory was refused for it
abbrev pub Refuses : Error → Result Bool Error → Type 0
Refuses error (Ok ready) = ⊥
Refuses error (Err answer) = IsCopy error answer

-- whether calls are made in this phase, or why none are any more
abbrev pub TellsReady : Phase → Result Bool Error → Type 0
TellsReady phases.WaitingStart result = result ≡ Ok false
TellsReady (phases.WaitingReplayEntries left) result = result ≡ Ok false
TellsReady phases.Active result = result ≡ Ok true
TellsReady phases.Closed result = Refuses (closed_error (codes "IsReadyToExecute")) result
TellsReady (phases.Failed kept) result = Refuses kept result

-- all that was written and was not taken, whether it fits into memory as one piece or not
abbrev pub TakesOutput : (old : MachineState) → Result (List ℕ) AllocError → (new : MachineState) → Type 0
TakesOutput old (Ok bytes) new = (bytes ≡ old.active.output.bytes) × (new ≡ record old { active = record old.active { output = all_taken old.active.output } })
TakesOutput old (Err refused) new = new ≡ old
