-- What taking the recorded read of an object's state answers: its kind, and what was known, are the record's.
use Rattle.std.specs.Prelude.{◌≡◌, ◌≢◌, ◌↔◌, ℕ, ℤ, Bool, true, false, List, [], ◌∷◌, Option, Some, None, Result, Ok, Err}
use Rattle.protocol_table.specs.declared.table.RecordType.{RecordType}
use Rattle.protocol_wire.specs.Wire.{Field}
use Rattle.journal_model.specs.Request.{Request}
use Rattle.journal_model.specs.Spelling.{request_type}
use Rattle.attempt_model.specs.Requests.{Commands, put_one}
use Rattle.protocol_stream.specs.declared.decoder.RawMessage.{RawMessage}
use Rattle.protocol_stream.specs.declared.decoder.DecodingError.{DecodingError}
use Rattle.protocol_stream.specs.declared.decoder.DecodingError.TheVariants as unread
use Rattle.protocol_stream.specs.Header.{message_type}
use Rattle.protocol_messages.specs.RecordMessage.{type_of_record}
use Rattle.protocol_messages.specs.Decodings.{DecodesTo, HasItsType}
use Rattle.protocol_errors.specs.declared.mismatch.CommandTypeMismatchError.{CommandTypeMismatchError}
use Rattle.protocol_equality.specs.Laws.{AreHeaderEqual}
use Rattle.vm_commands.specs.declared.replay_error.ReplayError.{ReplayError}
use Rattle.vm_commands.specs.declared.replay_error.ReplayError.TheVariants.{Unavailable, Decoding, Mismatch, OutOfMemory}
use Rattle.vm_commands.specs.declared.state_read.StateRead.{StateRead}
use Rattle.vm_commands.specs.declared.state_read.StateRead.TheVariants as reads
use Rattle.vm_commands.specs.declared.state_read.StateReadError.{StateReadError}
use Rattle.vm_commands.specs.declared.state_read.StateReadError.TheVariants as errors
use Rattle.vm_commands.specs.HeaderEquality.{header_equal}
use Rattle.vm_commands.specs.RecordedCommands.{commands_of, as_recorded}
use Rattle.vm_commands.specs.NextCommand.{both_told, TakesAs, IsNoRequest, IsNextUnread}

-- ---- the answer, exactly

-- whether a message was not read because it is of another type
abbrev pub tells_type : DecodingError → Bool
tells_type (unread.UnexpectedMessageType expected actual index) = true
tells_type _ = false

-- a recorded read that was known, which asks what the call asks
pub record IsEager {L E K : Type 0} (t : RecordType) (of : ℕ → List Field → E) (erased : Bool → E → E) (known : E → Option K) (bare : E → E) (asked : L → E)
    (index : ℤ) (ignoring : Bool) (made : L) (m : RawMessage) (found : Option K) : Type 0 where
  pub recorded : E
  pub is_read : DecodesTo t of index m (Ok recorded)
  pub is_known : known recorded ≡ found
  pub is_asked : AreHeaderEqual erased ignoring (bare recorded) (asked made)

-- a recorded read that was known, which asks something else; what was known is not told
pub record AsksOther {L E : Type 0} (t : RecordType) (of : ℕ → List Field → E) (erased : Bool → E → E) (bare : E → E) (asked : L → E) (index : ℤ) (ignoring : Bool) (made : L) (m : RawMessage)
    (answer : ReplayError E) : Type 0 where
  pub recorded : E
  pub is_read : DecodesTo t of index m (Ok recorded)
  pub is_told : answer ≡ Mismatch (both_told index (bare recorded) (asked made))
  pub differs : AreHeaderEqual erased ignoring (bare recorded) (asked made) → ⊥

-- a recorded read that waits for a completion
pub record IsLazy {L : Type 0} (t : RecordType) (of : ℕ → List Field → L) (erased : Bool → L → L) (index : ℤ) (ignoring : Bool) (made : L) (m : RawMessage) : Type 0 where
  pub recorded : L
  pub is_taken : TakesAs t of erased index ignoring made (Some m) (Ok recorded)

-- a recorded command that is neither
pub record IsNoRead (eager lazy : RecordType) (index : ℤ) (m : RawMessage) (error : CommandTypeMismatchError) : Type 0 where
  pub is_expected : type_of_record lazy ≡ Some error.expected
  pub is_there : error.actual ≡ message_type m.header
  pub at : error.command_index ≡ index
  pub not_eager : HasItsType eager m → ⊥
  pub not_lazy : HasItsType lazy m → ⊥

-- The next recorded message is the read that a call makes, of either kind; or the answer tells which of these fails.
abbrev pub ReadsAs : {L E K : Type 0} → (eager lazy : RecordType) → (of_eager : ℕ → List Field → E) → (of_lazy : ℕ → List Field → L) → (erased_eager : Bool → E → E) → (erased_lazy : Bool → L → L)
    → (known : E → Option K) → (bare : E → E) → (asked : L → E) → (index : ℤ) → (ignoring : Bool) → (made : L) → Option RawMessage → Result (StateRead K) (StateReadError L E) → Type 0
ReadsAs eager lazy of_eager of_lazy erased_eager erased_lazy known bare asked index ignoring made None (Err (errors.Lazy (Unavailable error))) = type_of_record lazy ≡ Some error.expected
ReadsAs eager lazy of_eager of_lazy erased_eager erased_lazy known bare asked index ignoring made None _ = ⊥
ReadsAs eager lazy of_eager of_lazy erased_eager erased_lazy known bare asked index ignoring made (Some m) (Ok reads.Lazy) = IsLazy lazy of_lazy erased_lazy index ignoring made m
ReadsAs eager lazy of_eager of_lazy erased_eager erased_lazy known bare asked index ignoring made (Some m) (Ok (reads.Eager found)) =
    IsEager eager of_eager erased_eager known bare asked index ignoring made m (Some found)
ReadsAs eager lazy of_eager of_lazy erased_eager erased_lazy known bare asked index ignoring made (Some m) (Err errors.Empty) =
    IsEager eager of_eager erased_eager known bare asked index ignoring made m None
ReadsAs eager lazy of_eager of_lazy erased_eager erased_lazy known bare asked index ignoring made (Some m) (Err (errors.OtherType error)) = IsNoRead eager lazy index m error
ReadsAs eager lazy of_eager of_lazy erased_eager erased_lazy known bare asked index ignoring made (Some m) (Err (errors.Eager (Mismatch error))) =
    AsksOther eager of_eager erased_eager bare asked index ignoring made m (Mismatch error)
ReadsAs eager lazy of_eager of_lazy erased_eager erased_lazy known bare asked index ignoring made (Some m) (Err (errors.Eager (Decoding error))) =
    HasItsType eager m × (DecodesTo eager of_eager index m (Err error) × (error ≢ unread.OutOfMemory))
ReadsAs eager lazy of_eager of_lazy erased_eager erased_lazy known bare asked index ignoring made (Some m) (Err (errors.Eager (Unavailable error))) = ⊥
ReadsAs eager lazy of_eager of_lazy erased_eager erased_lazy known bare asked index ignoring made (Some m) (Err (errors.Eager OutOfMemory)) = Unit {0}
ReadsAs eager lazy of_eager of_lazy erased_eager erased_lazy known bare asked index ignoring made (Some m) (Err (errors.Lazy (Decoding error))) =
    HasItsType lazy m × TakesAs lazy of_lazy erased_lazy index ignoring made (Some m) (Err (Decoding error))
ReadsAs eager lazy of_eager of_lazy erased_eager erased_lazy known bare asked index ignoring made (Some m) (Err (errors.Lazy error)) =
    TakesAs lazy of_lazy erased_lazy index ignoring made (Some m) (Err error)

-- ---- what it says of requests

-- why what is next is not the read: it is another request, or of another type; or it is no request
abbrev pub IsNotRead : {L E : Type 0} → StateReadError L E → Commands → Type 0
IsNotRead (errors.OtherType error) left = Unit {0}
IsNotRead (errors.Lazy (Decoding error)) left = IsNextUnread error left
IsNotRead (errors.Lazy _) left = Unit {0}
IsNotRead (errors.Eager (Decoding error)) left = IsNextUnread error left
IsNotRead (errors.Eager _) left = Unit {0}
IsNotRead errors.Empty left = IsNoRequest left

-- The read that a call makes, as it is recorded, is matched with the next that is left, and nothing is written; an error says that it is another, but
-- where nothing was left or memory was refused.
abbrev pub MatchesRead : {K L E : Type 0} → (ignoring : Bool) → (made : Request) → (written : List Request) → (old : List RawMessage) → Result (StateRead K) (StateReadError L E) → (new : List RawMessage) → Type 0
MatchesRead ignoring made written old (Ok read) new = put_one (header_equal ignoring) (as_recorded (commands_of old) made) (commands_of old) written ≡ Some (record { left = commands_of new; written = written })
MatchesRead ignoring made written old (Err (errors.Lazy (Unavailable error))) new = commands_of old ≡ []
MatchesRead ignoring made written old (Err (errors.Lazy OutOfMemory)) new = Unit {0}
MatchesRead ignoring made written old (Err (errors.Eager OutOfMemory)) new = Unit {0}
MatchesRead ignoring made written old (Err error) new = (put_one (header_equal ignoring) (as_recorded (commands_of old) made) (commands_of old) written ≡ None) × IsNotRead error (commands_of old)

-- How a read whose answer was known stands to the same read whose answer is to come: `retold read lazy` asks what `lazy` asks, with what `read` knew.
pub record IsRetold {L E K : Type 0} (eager lazy : RecordType) (known : E → Option K) (bare : E → E) (asked : L → E) (retold : E → L → E) (erased : Bool → E → E)
    (request_of : E → Option Request) (lazy_request_of : L → Option Request) : Type 0 where
  -- they are messages of two types
  pub apart : type_of_record eager ≢ type_of_record lazy
  -- what was known is not compared, since it is taken over
  pub taken_over : (ignoring : Bool) (read : E) (other : L) → AreHeaderEqual erased ignoring (bare read) (asked other) ↔ AreHeaderEqual erased ignoring read (retold read other)
  -- where a read of this kind is recorded, this is the request of the call's read as it is recorded
  pub requested : (read : E) (other : L) (recorded made : Request) (left : Commands) → request_of read ≡ Some recorded → lazy_request_of other ≡ Some made
      → request_of (retold read other) ≡ Some (as_recorded (Some recorded ∷ left) made)
  -- where another command is recorded, the call's read stays as it is
  pub stays : (other : L) (recorded made : Request) (left : Commands) → lazy_request_of other ≡ Some made → type_of_record eager ≢ Some (request_type recorded)
      → as_recorded (Some recorded ∷ left) made ≡ made
  -- and exactly a read without what was known is no request
  pub unknown : (read : E) → (known read ≡ None) ↔ (request_of read ≡ None)
