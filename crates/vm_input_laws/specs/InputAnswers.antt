-- What a machine answers for its input that has kept its start and the entries that were recorded.
use Rattle.std.specs.Prelude.{◌≡◌, ◌⊎◌, ℤ, List, ◌∷◌, Option, Some, None, Result, Ok, Err}
use Rattle.std.specs.declared.alloc.AllocError.{AllocError}
use Rattle.journal_model.specs.Request.{Request}
use Rattle.journal_model.specs.Run.{Invocation}
use Rattle.journal_model.specs.declared.handler.Input.{Input}
use Rattle.attempt_model.specs.Machine.{Machine}
use Rattle.protocol_errors.specs.declared.error.Error.{Error}
use Rattle.protocol_messages.specs.Decodings.{DecodesTo}
use Rattle.protocol_records.specs.InputCommand.{input_command_of}
use Rattle.protocol_records.specs.declared.input_command.InputCommandMessage.{InputCommandMessage}
use Rattle.protocol_records.specs.declared.start.StartMessage.{StartMessage}
use Rattle.protocol_stream.specs.declared.decoder.RawMessage.{RawMessage}
use Rattle.protocol_table.specs.declared.table.RecordType.TheVariants as records
use Rattle.protocol_types.specs.Version.{version_number}
use Rattle.vm_calls.specs.declared.active.Active.{Active}
use Rattle.vm_calls.specs.Active.{Sees}
use Rattle.vm_commands.specs.NextCommand.{next_of}
use Rattle.vm_machine.specs.StateBeforeInput.{Gathers, without_input}
use Rattle.vm_start.specs.declared.phase.Phase.TheVariants as phases
use Rattle.vm_feeding.specs.Input.{input_given}
use Rattle.vm_machine.specs.MachineFailure.{MachineFails}
use Rattle.vm_machine.specs.declared.machine_state.MachineState.{MachineState}
use Rattle.vm_types.specs.declared.options.JournalReplay.TheVariants.{Enabled}
use Rattle.vm_feeding.specs.InputAnswer.{IsInputRead}

-- the first command that was recorded is this input's
pub record HasInput (input : InputCommandMessage) (active : Active) : Type 0 where
  pub message : RawMessage
  pub first : next_of active.commands.items ≡ Some message
  pub decoded : (index : ℤ) → DecodesTo records.InputCommand input_command_of index message (Ok input)

-- The machine replays its journal and was asked nothing. It has this start, and in front of all commands this input; what else has come is
-- kept as the abstract machine keeps it.
pub record IsInputReady (given : Invocation) (m : Machine) (left : List (Option Request)) (told : StartMessage) (input : InputCommandMessage) (vm : MachineState) : Type 0 where
  pub phase : vm.phase ≡ phases.Active
  pub replays : vm.options.journal_replay ≡ Enabled
  pub start : vm.start ≡ Some told
  pub has_input : HasInput input vm.active
  pub behind : m.left ≡ None ∷ left
  pub gathers : Gathers given vm.active m

-- the input is given as its command and the start tell it, and calls see what came behind it
pub record IsGiven (given : Invocation) (m : Machine) (left : List (Option Request)) (told : StartMessage) (input : InputCommandMessage) (old : MachineState) (result : Result Input Error) (new : MachineState) : Type 0 where
  pub answer : result ≡ Ok (input_given (version_number old.version) old.options.fallback_random_seed told input)
  pub sees : Sees given new.active (without_input left m)
  pub output : new.active.output ≡ old.active.output
  pub others : new ≡ record old { active = new.active }

-- or memory was refused, and the machine has failed for that
pub record LacksMemoryForInput (old : MachineState) (result : Result Input Error) (new : MachineState) : Type 0 where
  pub between : MachineState
  pub phase : between.phase ≡ old.phase
  pub output : between.active.output ≡ old.active.output
  pub refused : AllocError
  pub answer : Error
  pub answered : result ≡ Err answer
  pub fails : MachineFails (Err refused) between answer new

abbrev pub InputsAreRead : Type 0
InputsAreRead = (given : Invocation) (m : Machine) (left : List (Option Request)) (told : StartMessage) (input : InputCommandMessage) (old : MachineState) (result : Result Input Error) (new : MachineState)
    → IsInputReady given m left told input old → IsInputRead old result new → IsGiven given m left told input old result new ⊎ LacksMemoryForInput old result new
