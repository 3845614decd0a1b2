-- What taking the next recorded command answers, and what that says of the requests that are left to match.
use Rattle.std.specs.Prelude.{◌≡◌, ◌≢◌, ℕ, ℤ, Bool, List, [], ◌∷◌, ◌++◌, Option, Some, None, Result, Ok, Err}
use Rattle.protocol_table.specs.declared.table.RecordType.{RecordType}
use Rattle.protocol_wire.specs.Wire.{Field}
use Rattle.journal_model.specs.Request.{Request}
use Rattle.attempt_model.specs.Requests.{Commands, put_one}
use Rattle.protocol_stream.specs.ErrorText.{decoding_text, no_memory_text}
use Rattle.protocol_stream.specs.declared.decoder.RawMessage.{RawMessage}
use Rattle.protocol_stream.specs.declared.decoder.DecodingError.{DecodingError}
use Rattle.protocol_stream.specs.declared.decoder.DecodingError.TheVariants as unread
use Rattle.protocol_messages.specs.RecordMessage.{type_of_record}
use Rattle.protocol_messages.specs.Decodings.{DecodesTo}
use Rattle.protocol_errors.specs.Code.{journal_mismatch, internal}
use Rattle.protocol_errors.specs.Error.{decoding_code}
use Rattle.protocol_errors.specs.Texts.{mismatch_text, unavailable_text}
use Rattle.protocol_differences.specs.declared.mismatch.CommandMismatchError.{CommandMismatchError}
use Rattle.protocol_differences.specs.Mismatch.{place_text}
use Rattle.protocol_equality.specs.Laws.{AreHeaderEqual}
use Rattle.vm_commands.specs.declared.replay_error.ReplayError.{ReplayError}
use Rattle.vm_commands.specs.declared.replay_error.ReplayError.TheVariants.{Unavailable, Decoding, Mismatch, OutOfMemory}
use Rattle.vm_commands.specs.HeaderEquality.{header_equal}
use Rattle.vm_commands.specs.RecordedCommands.{commands_of}

-- ---- what is taken

-- the message that is taken, if one is there
abbrev pub next_of : List RawMessage → Option RawMessage
next_of [] = None
next_of (message ∷ messages) = Some message

-- want of memory has a name of its own
abbrev pub unread_as : {M : Type 0} → DecodingError → ReplayError M
unread_as unread.OutOfMemory = OutOfMemory
unread_as error = Decoding error

-- both commands, and where they differ
abbrev pub both_told : {M : Type 0} → (index : ℤ) → (recorded made : M) → CommandMismatchError M
both_told index recorded made = record { command_index = index; actual = recorded; expected = made }

-- this recorded command is the one that a call makes; or both are told, unless memory lacks for that
abbrev pub Compares : {M : Type 0} → (erased : Bool → M → M) → (index : ℤ) → (ignoring : Bool) → (recorded made : M) → Result M (ReplayError M) → Type 0
Compares erased index ignoring recorded made (Ok taken) = (taken ≡ recorded) × AreHeaderEqual erased ignoring recorded made
Compares erased index ignoring recorded made (Err (Mismatch error)) = (error ≡ both_told index recorded made) × (AreHeaderEqual erased ignoring recorded made → ⊥)
Compares erased index ignoring recorded made (Err OutOfMemory) = AreHeaderEqual erased ignoring recorded made → ⊥
Compares erased index ignoring recorded made (Err _) = ⊥

-- The next recorded message is taken as the command that a call makes. It is of that command's type, can be read, and has the
-- header of the call's; or the answer tells which of these fails. No two answers but want of memory hold of one message.
abbrev pub TakesAs : {M : Type 0} → RecordType → (ℕ → List Field → M) → (erased : Bool → M → M) → (index : ℤ) → (ignoring : Bool) → (made : M)
    → Option RawMessage → Result M (ReplayError M) → Type 0
TakesAs t of erased index ignoring made None (Err (Unavailable error)) = type_of_record t ≡ Some error.expected
TakesAs t of erased index ignoring made None _ = ⊥
TakesAs t of erased index ignoring made (Some m) (Ok recorded) = DecodesTo t of index m (Ok recorded) × AreHeaderEqual erased ignoring recorded made
TakesAs t of erased index ignoring made (Some m) (Err (Mismatch error)) =
    DecodesTo t of index m (Ok error.actual) × ((error ≡ both_told index error.actual made) × (AreHeaderEqual erased ignoring error.actual made → ⊥))
TakesAs t of erased index ignoring made (Some m) (Err (Decoding error)) = DecodesTo t of index m (Err error) × (error ≢ unread.OutOfMemory)
TakesAs t of erased index ignoring made (Some m) (Err (Unavailable error)) = ⊥
TakesAs t of erased index ignoring made (Some m) (Err OutOfMemory) = Unit {0}

-- ---- what it says of requests

-- what is next is no request: it cannot be read, or lacks what each request of its kind has
abbrev pub IsNoRequest : Commands → Type 0
IsNoRequest (None ∷ left) = Unit {0}
IsNoRequest _ = ⊥

-- What is wrong with what is next: it is of another type; or it is of the type, and no request, since its payload cannot be read.
abbrev pub IsNextUnread : DecodingError → Commands → Type 0
IsNextUnread (unread.UnexpectedMessageType expected actual index) left = Unit {0}
IsNextUnread (unread.DecodeMessage ty fault) left = IsNoRequest left
IsNextUnread _ left = ⊥

-- The request that a call makes is matched with the next that is left, and nothing is written; an error says that they differ, but
-- where nothing was left or memory was refused.
abbrev pub Matches : {M : Type 0} → (ignoring : Bool) → (made : Request) → (written : List Request) → (old : List RawMessage) → Result M (ReplayError M) → (new : List RawMessage) → Type 0
Matches ignoring made written old (Ok recorded) new = put_one (header_equal ignoring) made (commands_of old) written ≡ Some (record { left = commands_of new; written = written })
Matches ignoring made written old (Err (Unavailable error)) new = commands_of old ≡ []
Matches ignoring made written old (Err OutOfMemory) new = Unit {0}
Matches ignoring made written old (Err (Decoding error)) new = (put_one (header_equal ignoring) made (commands_of old) written ≡ None) × IsNextUnread error (commands_of old)
Matches ignoring made written old (Err (Mismatch error)) new = put_one (header_equal ignoring) made (commands_of old) written ≡ None

-- ---- what an error tells

abbrev pub replay_code : {M : Type 0} → ReplayError M → ℕ
replay_code (Unavailable error) = journal_mismatch
replay_code (Decoding error) = decoding_code error
replay_code (Mismatch error) = journal_mismatch
replay_code OutOfMemory = internal

-- what is printed of it; of two commands that differ, where they do
abbrev pub replay_text : {M : Type 0} → (difference : M → M → List ℕ) → ReplayError M → List ℕ
replay_text difference (Unavailable error) = unavailable_text error.expected
replay_text difference (Decoding error) = decoding_text error
replay_text difference (Mismatch error) = mismatch_text ++ place_text error.command_index ++ difference error.actual error.expected
replay_text difference OutOfMemory = no_memory_text
