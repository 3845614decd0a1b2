-- What a machine answers that is asked for an ephemeral read, and what stands then.
use Rattle.std.specs.Prelude.{◌≡◌, ◌<◌, ◌≤◌, ◌^◌, ◌⊎◌, ℕ, Bool, true, false, length, Option, Some, None, Result, Ok, Err, codes}
use Rattle.std.specs.declared.alloc.AllocError.{AllocError}
use Rattle.journal_model.specs.Notification.{Text}
use Rattle.journal_model.specs.declared.value.Value.{Value}
use Rattle.journal_model.specs.declared.value.Value.TheVariants as values
use Rattle.protocol_controls.specs.GetStateEphemeralCommand.{get_state_ephemeral_command_parts}
use Rattle.protocol_errors.specs.Code.{internal}
use Rattle.protocol_errors.specs.Error.{plain_error}
use Rattle.protocol_errors.specs.FixedErrors.{fixed_code, fixed_text}
use Rattle.protocol_errors.specs.declared.error.Error.{Error}
use Rattle.protocol_errors.specs.declared.fixed.FixedError.TheVariants as fixed
use Rattle.protocol_messages.specs.Encodings.{record_message}
use Rattle.protocol_stream.specs.ErrorText.{too_long_text}
use Rattle.protocol_stream.specs.Frame.{spelled}
use Rattle.protocol_stream.specs.declared.decoder.RawMessage.{RawMessage}
use Rattle.protocol_stream.specs.declared.encoder.EncodingError.{EncodingError}
use Rattle.protocol_stream.specs.declared.encoder.EncodingError.TheVariants as unsent
use Rattle.protocol_types.specs.declared.message_type.MessageType.TheVariants as messages
use Rattle.protocol_types.specs.declared.version.Version.{Version}
use Rattle.vm_context.specs.Eager.{told_value}
use Rattle.vm_context.specs.Journal.{no_id_text}
use Rattle.vm_context.specs.Output.{Written, with_frame}
use Rattle.vm_context.specs.declared.eager_state.EagerGetState.{EagerGetState}
use Rattle.vm_context.specs.declared.eager_state.EagerGetState.TheVariants as told
use Rattle.vm_types.specs.Reads.{known, asked, answer_of, reads_after_take}
use Rattle.vm_types.specs.declared.commands.RegisterError.{RegisterError}
use Rattle.vm_types.specs.declared.commands.RegisterError.TheVariants as unregistered
use Rattle.vm_machine.specs.MachineFailure.{MachineFails}
use Rattle.vm_machine.specs.Causes.{TellsPlainError, Unless}
use Rattle.vm_machine.specs.Steps.{Steps, FailsBy, IsUnexpected, IsMissed}
use Rattle.vm_machine.specs.declared.machine_state.MachineState.{MachineState}
use Rattle.vm_types.specs.declared.handles.EphemeralCompletionId.{EphemeralCompletionId}
use Rattle.vm_feeding.specs.Refusals.{lacks_reads, refusal_code, refusal_text}
use Rattle.vm_feeding.specs.declared.refusal.ReadRefusal.{ReadRefusal}
use Rattle.vm_feeding.specs.declared.refusal.ReadRefusal.TheVariants.{Unsupported, InputClosed}

-- ---- frames

-- what asks for a key under this number
abbrev pub read_message : Version → (number : ℕ) → (key : Text) → RawMessage
read_message version number key = record_message messages.GetStateEphemeralCommand version (get_state_ephemeral_command_parts (record { ephemeral_completion_id = number; key = key }))

-- frames can be written, but this read's is longer than one can be
abbrev pub IsReadTooLong : (number : ℕ) → (key : Text) → Written → Type 0
IsReadTooLong number key output = (output.is_closed ≡ false) × (2 ^ 32 ≤ length (read_message output.version number key).payload)

-- with exactly the read's frame behind what was written
abbrev pub with_read : (number : ℕ) → (key : Text) → MachineState → MachineState
with_read number key old = record old { active = record old.active { output = with_frame (spelled (read_message old.active.output.version number key)) old.active.output } }

-- ---- causes

abbrev pub RegisterCauses : RegisterError → Result Error AllocError → Type 0
RegisterCauses unregistered.IdsExhausted cause = Unless false (TellsPlainError internal (Some no_id_text)) cause
RegisterCauses unregistered.OutOfMemory cause = Unless true (TellsPlainError internal None) cause

abbrev pub SendCauses : EncodingError → Result Error AllocError → Type 0
SendCauses unsent.PayloadTooLong cause = Unless false (TellsPlainError internal (Some too_long_text)) cause
SendCauses unsent.OutOfMemory cause = Unless true (TellsPlainError internal None) cause

-- no number is left, which is told, or memory was refused
abbrev pub LacksNumber : (old : MachineState) → Error → (new : MachineState) → Type 0
LacksNumber old answer new = FailsBy (λ error. (2 ^ 32 ≤ old.reads.next) × TellsPlainError internal (Some no_id_text) error) old answer new

-- ---- reads

-- the read takes the next number, and its value is there at once
abbrev pub Registers : Value → (old : MachineState) → Result EphemeralCompletionId Error → (new : MachineState) → Type 0
Registers value old (Ok id) new = (old.reads.next < 2 ^ 32) × (id.number ≡ old.reads.next) × (new ≡ record old { reads = known value old.reads })
Registers value old (Err answer) new = LacksNumber old answer new

-- the runtime is asked for the key, or its frame is not written: it is longer than one can be, or memory was refused
abbrev pub Sends : EphemeralCompletionId → (key : Text) → (old : MachineState) → Result EphemeralCompletionId Error → (new : MachineState) → Type 0
Sends id key old (Ok taken) new = (IsReadTooLong id.number key old.active.output → ⊥) × (taken ≡ id) × (new ≡ with_read id.number key old)
Sends id key old (Err answer) new = FailsBy (λ error. IsReadTooLong id.number key old.active.output × TellsPlainError internal (Some too_long_text) error) old answer new

-- the read takes the next number
pub record AsksNext (key : Text) (old : MachineState) (result : Result EphemeralCompletionId Error) (new : MachineState) : Type 0 where
  pub left : old.reads.next < 2 ^ 32
  pub id : EphemeralCompletionId
  pub next : id.number ≡ old.reads.next
  pub sends : Sends id key (record old { reads = asked old.reads }) result new

abbrev pub AsksRead : (key : Text) → (old : MachineState) → Result EphemeralCompletionId Error → (new : MachineState) → Type 0
AsksRead key old (Ok id) new = AsksNext key old (Ok id) new
AsksRead key old (Err answer) new = AsksNext key old (Err answer) new ⊎ LacksNumber old answer new

-- no read is made
abbrev pub Refuses : ReadRefusal → (old : MachineState) → Result EphemeralCompletionId Error → (new : MachineState) → Type 0
Refuses refusal old (Ok id) new = ⊥
Refuses refusal old (Err answer) new = FailsBy (TellsPlainError (refusal_code refusal) (Some (refusal_text refusal))) old answer new

-- the runtime is asked for what is not known, while it can answer
abbrev pub AsksWhere : (is_input_closed : Bool) → (key : Text) → (old : MachineState) → Result EphemeralCompletionId Error → (new : MachineState) → Type 0
AsksWhere true key old result new = Refuses (InputClosed (record { key = key })) old result new
AsksWhere false key old result new = AsksRead key old result new

-- by what is known of the key
abbrev pub Gets : EagerGetState → (key : Text) → (old : MachineState) → Result EphemeralCompletionId Error → (new : MachineState) → Type 0
Gets (told.Value value) key old result new = Registers (values.Success value) old result new
Gets told.Empty key old result new = Registers values.Void old result new
Gets told.Unknown key old result new = AsksWhere old.is_input_closed key old result new

-- in replay none is made
abbrev pub IsReplayed : (old : MachineState) → Result EphemeralCompletionId Error → (new : MachineState) → Type 0
IsReplayed old (Ok id) new = ⊥
IsReplayed old (Err answer) new = MachineFails (Ok (plain_error (fixed_code fixed.EphemeralCommandDuringReplay) (fixed_text fixed.EphemeralCommandDuringReplay))) old answer new

abbrev pub GetsBehind : (is_replaying : Bool) → (key : Text) → (old : MachineState) → Result EphemeralCompletionId Error → (new : MachineState) → Type 0
GetsBehind true key old result new = IsReplayed old result new
GetsBehind false key old result new = Gets (told_value old.active.state key) key old result new

-- where calls are made of the machine; the version is looked at first
abbrev pub GetsIn : (lacks : Bool) → (key : Text) → (old : MachineState) → Result EphemeralCompletionId Error → (new : MachineState) → Type 0
GetsIn true key old result new = Refuses (Unsupported old.version) old result new
GetsIn false key old result new = GetsBehind old.active.is_replaying key old result new

-- elsewhere; the version is looked at first, then whether a number is left
abbrev pub MissesIn : (lacks : Bool) → (old : MachineState) → Error → (new : MachineState) → Type 0
MissesIn true old answer new = Refuses (Unsupported old.version) old (Err answer) new
MissesIn false old answer new = IsMissed (2 ^ 32 ≤ old.reads.next) (codes "SysEphemeralStateGet") old answer new

-- one that has failed answers that again
abbrev pub IsGot : (key : Text) → (old : MachineState) → Result EphemeralCompletionId Error → (new : MachineState) → Type 0
IsGot key old result new = Steps (λ old. GetsIn (lacks_reads old.version) key old) (λ old. MissesIn (lacks_reads old.version) old) None old result new

-- ---- answers

-- behind the journal the answer is taken, if there is one
abbrev pub TakesWhere : (is_replaying : Bool) → EphemeralCompletionId → (old : MachineState) → Result (Option Value) Error → (new : MachineState) → Type 0
TakesWhere false id old result new = (result ≡ Ok (answer_of old.reads id.number)) × (new ≡ record old { reads = reads_after_take id.number old.reads })
TakesWhere true id old (Ok taken) new = ⊥
TakesWhere true id old (Err answer) new = IsUnexpected (codes "TakeEphemeralNotification") old answer new

abbrev pub IsReadTaken : EphemeralCompletionId → (old : MachineState) → Result (Option Value) Error → (new : MachineState) → Type 0
IsReadTaken id old result new = Steps (λ old. TakesWhere old.active.is_replaying id old) (IsUnexpected (codes "TakeEphemeralNotification")) None old result new
