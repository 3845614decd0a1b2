-- No more input comes.
use Rattle.std.specs.Prelude.{◌≡◌, Bool, true, false, Ok}
use Rattle.protocol_errors.specs.Error.{plain_error}
use Rattle.protocol_errors.specs.FixedErrors.{fixed_code, fixed_text}
use Rattle.protocol_errors.specs.declared.fixed.FixedError.TheVariants.{InputClosedWhileWaitingEntries}
use Rattle.vm_start.specs.declared.phase.Phase.{Phase}
use Rattle.vm_start.specs.declared.phase.Phase.TheVariants as phases
use Rattle.vm_feeding.specs.UnansweredFailure.{HasFailed}
use Rattle.vm_machine.specs.declared.machine_state.MachineState.{MachineState}

-- whether its start, or some of the entries that it announced, have not come
abbrev pub is_waiting : Phase → Bool
is_waiting phases.WaitingStart = true
is_waiting (phases.WaitingReplayEntries left) = true
is_waiting _ = false

abbrev pub input_closed : MachineState → MachineState
input_closed vm = record vm { is_input_closed = true }

-- that is kept, and one that waits fails
abbrev pub ClosesWhere : (waits : Bool) → (closed new : MachineState) → Type 0
ClosesWhere true closed new = HasFailed (Ok (plain_error (fixed_code InputClosedWhileWaitingEntries) (fixed_text InputClosedWhileWaitingEntries))) closed new
ClosesWhere false closed new = new ≡ closed

abbrev pub ClosesInput : (old new : MachineState) → Type 0
ClosesInput old new = ClosesWhere (is_waiting old.phase) (input_closed old) new
