-- What an error tells of what is recorded next, where it is not the command that a call makes.
use Rattle.std.specs.Prelude.{◌≡◌, ◌≢◌, ℤ, pos, ◌-ℤ◌, List, [], ◌∷◌, Option, Some, None, Result, Err}
use Rattle.protocol_table.specs.declared.table.RecordType.{RecordType}
use Rattle.protocol_types.specs.declared.message_type.MessageType.{MessageType}
use Rattle.protocol_wire.specs.Check.{payload_fault}
use Rattle.protocol_wire.specs.declared.check.Fault.{Fault}
use Rattle.protocol_wire.specs.declared.record.TheConstants.{LEVELS}
use Rattle.protocol_stream.specs.Header.{message_type}
use Rattle.protocol_stream.specs.declared.decoder.RawMessage.{RawMessage}
use Rattle.protocol_stream.specs.declared.decoder.DecodingError.TheVariants as unread
use Rattle.vm_context.specs.Journal.{JournalCounts}
use Rattle.protocol_messages.specs.RecordMessage.{type_of_record}
use Rattle.vm_commands.specs.declared.replay_error.ReplayError.{ReplayError}
use Rattle.vm_commands.specs.declared.replay_error.ReplayError.TheVariants as unmatched
use Rattle.vm_calls.specs.declared.active.Active.{Active}
use Rattle.vm_calls.specs.declared.call_error.CallError.{CallError}
use Rattle.vm_calls.specs.declared.call_error.CallError.TheVariants.{Put}
use Rattle.vm_calls.specs.declared.put_error.PutError.{PutError}
use Rattle.vm_calls.specs.declared.put_error.PutError.TheVariants.{Replay, Encoding}

-- the place of the last command that was asked for: that of the first is 0
abbrev pub command_place : JournalCounts → ℤ
command_place journal = pos journal.commands -ℤ pos 1

-- A recorded message is of this type, and this is wrong with its payload as that of the record which such messages carry, or
-- nothing is.
pub record IsRecorded (ty : MessageType) (fault : Option Fault) (m : RawMessage) : Type 0 where
  pub carries : RecordType
  pub typed : type_of_record carries ≡ Some ty
  pub is_there : message_type m.header ≡ ty
  pub is_wrong : payload_fault LEVELS carries m.payload ≡ fault

-- what is next is of this type, and this is wrong with it, or nothing
abbrev pub IsRecordedNext : (ty : MessageType) → Option Fault → List RawMessage → Type 0
IsRecordedNext ty fault [] = ⊥
IsRecordedNext ty fault (m ∷ messages) = IsRecorded ty fault m

-- what is next is of another type than this one: of that
abbrev pub IsOtherNext : (ty : MessageType) → (actual : MessageType) → List RawMessage → Type 0
IsOtherNext ty actual [] = ⊥
IsOtherNext ty actual (m ∷ messages) = (actual ≡ message_type m.header) × (actual ≢ ty)

-- Why what is recorded next is not a call's command of this type, at this place: nothing is; or it is of the type, can be read, and
-- is another command; or it is of another type; or of the type, and cannot be read. So no two of these are told of one message.
abbrev pub TellsUnmatched : {M : Type 0} → (ty : MessageType) → (place : ℤ) → List RawMessage → ReplayError M → Type 0
TellsUnmatched ty place queue (unmatched.Unavailable error) = (queue ≡ []) × (error.expected ≡ ty)
TellsUnmatched ty place queue (unmatched.Mismatch error) = IsRecordedNext ty None queue × (error.command_index ≡ place)
TellsUnmatched ty place queue (unmatched.Decoding (unread.UnexpectedMessageType expected actual told)) = IsOtherNext ty actual queue × (expected ≡ ty) × (told ≡ place)
TellsUnmatched ty place queue (unmatched.Decoding (unread.DecodeMessage told fault)) = IsRecordedNext ty (Some fault) queue × (told ≡ ty)
TellsUnmatched ty place queue (unmatched.Decoding _) = ⊥
TellsUnmatched ty place queue unmatched.OutOfMemory = Unit {0}

abbrev pub TellsPut : {M : Type 0} → (ty : MessageType) → (place : ℤ) → List RawMessage → PutError M → Type 0
TellsPut ty place queue (Replay error) = TellsUnmatched ty place queue error
TellsPut ty place queue (Encoding error) = Unit {0}

-- what a call tells whose command is of this type: its place is the one that is counted for it
abbrev pub FindsAs : {M Taken : Type 0} → (ty : MessageType) → (old : Active) → Result Taken (CallError M) → (new : Active) → Type 0
FindsAs ty old (Err (Put error)) new = TellsPut ty (command_place new.journal) old.commands.items error
FindsAs ty old _ new = Unit {0}
