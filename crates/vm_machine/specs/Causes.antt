-- What a machine fails with, by what came up.
use Rattle.std.specs.Prelude.{◌≡◌, ℕ, Bool, true, false, List, codes, IfSome, Option, Some, None, Result, Ok, Err}
use Rattle.std.specs.declared.alloc.AllocError.{AllocError}
use Rattle.protocol_differences.specs.declared.relationship.CommandRelationship.TheVariants.{Last}
use Rattle.protocol_errors.specs.Code.{internal, journal_mismatch, protocol_violation}
use Rattle.protocol_errors.specs.Error.{plain_error, decoding_code}
use Rattle.protocol_errors.specs.FixedErrors.{fixed_code, fixed_text}
use Rattle.protocol_errors.specs.Texts.{bad_ack_text, unavailable_text}
use Rattle.protocol_errors.specs.declared.error.Error.{Error}
use Rattle.protocol_stream.specs.ErrorText.{decoding_text}
use Rattle.protocol_stream.specs.declared.encoder.EncodingError.TheVariants as unsent
use Rattle.vm_calls.specs.declared.call_error.CallError.TheVariants as calls
use Rattle.vm_calls.specs.declared.call_error.NumberError.TheVariants as numbers
use Rattle.vm_start.specs.declared.error.StartError.TheVariants as starts
use Rattle.vm_commands.specs.declared.replay_error.ReplayError.TheVariants as unmatched
use Rattle.vm_calls.specs.declared.call_error.CallError.{CallError}
use Rattle.vm_calls.specs.declared.call_error.NumberError.{NumberError}
use Rattle.vm_calls.specs.declared.put_error.PutError.{PutError}
use Rattle.vm_calls.specs.declared.put_error.PutError.TheVariants.{Replay, Encoding}
use Rattle.vm_calls.specs.RequestPuts.{put_code, put_error_text}
use Rattle.vm_start.specs.declared.phase.Phase.{Phase}
use Rattle.vm_start.specs.Phases.{unexpected_error}
use Rattle.vm_start.specs.Starts.{start_code, start_text}
use Rattle.vm_context.specs.Journal.{JournalCounts, no_id_text, command_told}
use Rattle.vm_machine.specs.declared.entry_error.EntryError.{EntryError}
use Rattle.vm_machine.specs.declared.entry_error.EntryError.TheVariants as entries
use Rattle.vm_machine.specs.declared.incoming.Incoming.{Incoming}
use Rattle.vm_machine.specs.declared.incoming.Incoming.TheVariants as incoming
use Rattle.vm_machine.specs.declared.input.InputError.{InputError}
use Rattle.vm_machine.specs.declared.input.InputError.TheVariants as inputs

-- an error of this code, and of this text where one is known, about no command
pub record TellsPlainError (code : ℕ) (text : Option (List ℕ)) (told : Error) : Type 0 where
  pub plain : told ≡ plain_error code told.message
  pub message : IfSome text (λ text. told.message ≡ text)

-- one about the command that was asked for last
pub record TellsLast (journal : JournalCounts) (code : ℕ) (text : Option (List ℕ)) (told : Error) : Type 0 where
  pub about : told ≡ record (plain_error code told.message) { related_command = Some (command_told journal Last) }
  pub message : IfSome text (λ text. told.message ≡ text)

-- what is told where memory is there for it
abbrev pub Unless : (lacks_memory : Bool) → (Error → Type 0) → Result Error AllocError → Type 0
Unless true told (Ok error) = ⊥
Unless false told (Ok error) = told error
Unless lacks_memory told (Err refused) = Unit {0}

-- ---- calls

abbrev pub put_lacks_memory : {M : Type 0} → PutError M → Bool
put_lacks_memory (Replay unmatched.OutOfMemory) = true
put_lacks_memory (Replay (unmatched.Unavailable error)) = false
put_lacks_memory (Replay (unmatched.Decoding error)) = false
put_lacks_memory (Replay (unmatched.Mismatch error)) = false
put_lacks_memory (Encoding unsent.OutOfMemory) = true
put_lacks_memory (Encoding unsent.PayloadTooLong) = false

abbrev pub PutCauses : {M : Type 0} → (M → M → List ℕ) → JournalCounts → PutError M → Result Error AllocError → Type 0
PutCauses difference journal error result = Unless (put_lacks_memory error) (TellsLast journal (put_code error) (Some (put_error_text difference error))) result

-- where a number is lacking, and where the command is neither matched nor written, the command is told
abbrev pub CallCauses : {M : Type 0} → (M → M → List ℕ) → JournalCounts → CallError M → Result Error AllocError → Type 0
CallCauses difference journal (calls.Number numbers.IdsExhausted) result = Unless false (TellsLast journal internal (Some no_id_text)) result
CallCauses difference journal (calls.Number numbers.OutOfMemory) result = Unless true (TellsPlainError internal None) result
CallCauses difference journal (calls.Put error) result = PutCauses difference journal error result
CallCauses difference journal calls.OutOfMemory result = Unless true (TellsPlainError internal None) result

-- what came for the invocation id of a child is none
abbrev pub child_not_id_error : Error
child_not_id_error = plain_error internal (codes "What came for the invocation id of a child is none")

abbrev pub NumberCauses : NumberError → Result Error AllocError → Type 0
NumberCauses numbers.IdsExhausted result = Unless false (TellsPlainError internal (Some no_id_text)) result
NumberCauses numbers.OutOfMemory result = Unless true (TellsPlainError internal None) result

-- the input's command is the one that was asked for last
abbrev pub InputCauses : JournalCounts → InputError → Result Error AllocError → Type 0
InputCauses journal (inputs.Unavailable error) result = Unless false (TellsLast journal journal_mismatch (Some (unavailable_text error.expected))) result
InputCauses journal (inputs.Decoding error) result = Unless false (TellsLast journal (decoding_code error) (Some (decoding_text error))) result
InputCauses journal inputs.OutOfMemory result = Unless true (TellsPlainError internal None) result

-- ---- messages that come

-- the names that errors have for them
abbrev pub event_of : Incoming → List ℕ
event_of incoming.Start = codes "NewStartMessage"
event_of incoming.Command = codes "NewCommandMessage"
event_of incoming.Notification = codes "NewNotificationMessage"
event_of incoming.RunAcknowledgement = codes "NewProposeRunCompletionAckMessage"
event_of incoming.EphemeralAnswer = codes "NewGetStateEphemeralNotificationMessage"
event_of incoming.Other = codes "NewMessage"

abbrev pub EntryCauses : Phase → (is_replaying : Bool) → EntryError → Result Error AllocError → Type 0
EntryCauses phase is_replaying (entries.Fixed error) result = result ≡ Ok (plain_error (fixed_code error) (fixed_text error))
EntryCauses phase is_replaying (entries.Unexpected kind) result = Unless false (λ told. told ≡ unexpected_error phase is_replaying (event_of kind)) result
EntryCauses phase is_replaying (entries.Decoding error) result = Unless false (TellsPlainError (decoding_code error) (Some (decoding_text error))) result
EntryCauses phase is_replaying (entries.Start starts.OutOfMemory) result = Unless true (TellsPlainError internal None) result
EntryCauses phase is_replaying (entries.Start error) result = Unless false (TellsPlainError (start_code error) (Some (start_text error))) result
EntryCauses phase is_replaying (entries.UnknownRun error) result = Unless false (TellsPlainError protocol_violation (Some (bad_ack_text error.completion_id))) result
EntryCauses phase is_replaying entries.OutOfMemory result = Unless true (TellsPlainError internal None) result
