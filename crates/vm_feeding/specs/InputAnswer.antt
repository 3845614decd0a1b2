-- What a machine answers that is asked for the input, and what stands then.
use Rattle.std.specs.Prelude.{◌≡◌, Bool, true, [], Option, Some, None, Result, Ok, Err}
use Rattle.journal_model.specs.declared.handler.Input.{Input}
use Rattle.protocol_errors.specs.declared.error.Error.{Error}
use Rattle.protocol_records.specs.declared.input_command.InputCommandMessage.{InputCommandMessage}
use Rattle.protocol_records.specs.declared.start.StartMessage.{StartMessage}
use Rattle.protocol_types.specs.Version.{version_number}
use Rattle.protocol_types.specs.declared.message_type.MessageType.TheVariants.{InputCommand}
use Rattle.protocol_types.specs.declared.version.Version.{Version}
use Rattle.vm_calls.specs.declared.active.Active.{Active}
use Rattle.vm_feeding.specs.Input.{input_given}
use Rattle.vm_types.specs.declared.options.VMOptions.{VMOptions}
use Rattle.vm_machine.specs.CallAdmission.{IsElsewhere}
use Rattle.vm_machine.specs.MachineFailure.{MachineFails}
use Rattle.vm_machine.specs.Input.{ReadsInput}
use Rattle.vm_machine.specs.Causes.{InputCauses}
use Rattle.vm_machine.specs.declared.input.InputError.{InputError}
use Rattle.vm_machine.specs.Steps.{Steps}
use Rattle.vm_machine.specs.declared.machine_state.MachineState.{MachineState}
use Rattle.vm_feeding.specs.declared.reading.Reading.{Reading}
use Rattle.vm_feeding.specs.declared.reading.Reading.TheVariants.{Given, Fails, Elsewhere}

-- What was read is given, as the start tells the rest of it, or memory is refused for that; or it is told why nothing was read.
abbrev pub Gives : Version → VMOptions → StartMessage → Active → Result InputCommandMessage InputError → Reading → Type 0
Gives version options start active (Ok message) (Given input) = input ≡ input_given (version_number version) options.fallback_random_seed start message
Gives version options start active (Ok message) (Fails (Err refused)) = Unit {0}
Gives version options start active (Err error) (Fails cause) = InputCauses active.journal error cause
Gives version options start active read reading = ⊥

-- the first recorded command is read as the input, and given
pub record ReadsRecordedInput (version : Version) (options : VMOptions) (start : StartMessage) (old : Active) (reading : Reading) (new : Active) : Type 0 where
  pub read : Result InputCommandMessage InputError
  pub reads : ReadsInput options.journal_replay old read new
  pub gives : Gives version options start new read reading

-- it is read while the attempt replays, with its start known
abbrev pub ReadsAs : Version → VMOptions → (is_replaying : Bool) → Option StartMessage → (old : Active) → Reading → (new : Active) → Type 0
ReadsAs version options true (Some start) old reading new = ReadsRecordedInput version options start old reading new
ReadsAs version options is_replaying start old reading new = (reading ≡ Elsewhere) × (new ≡ old)

-- the input is answered, or the machine fails
abbrev pub AnswersReading : Reading → (between : MachineState) → Result Input Error → (new : MachineState) → Type 0
AnswersReading (Given input) between result new = (result ≡ Ok input) × (new ≡ between)
AnswersReading (Fails cause) between (Err answer) new = MachineFails cause between answer new
AnswersReading Elsewhere between (Err answer) new = IsElsewhere 0 InputCommand [] between answer new
AnswersReading reading between result new = ⊥

-- of a machine of which calls are made
pub record ReadsInputs (old : MachineState) (result : Result Input Error) (new : MachineState) : Type 0 where
  pub reading : Reading
  pub between : MachineState
  pub others : between ≡ record old { active = between.active }
  pub reads : ReadsAs old.version old.options old.active.is_replaying old.start old.active reading between.active
  pub answers : AnswersReading reading between result new

-- one that has failed answers that again; elsewhere it fails, with the input's command counted
abbrev pub IsInputRead : (old : MachineState) → Result Input Error → (new : MachineState) → Type 0
IsInputRead old result new = Steps ReadsInputs (IsElsewhere 0 InputCommand []) None old result new
