-- What a start tells of its attempt, and when an attempt does not begin with it.
use Rattle.std.specs.Prelude.{◌≡◌, ◌<◌, ◌⊎◌, ℕ, List, [], ◌∷◌, map, drop, Option, Some, None, IsUtf8}
use Rattle.std.specs.Str.{valid_up_to, error_len}
use Rattle.std.specs.Str.Lossy.{utf8_valid_len, utf8_error_len}
use Rattle.protocol_errors.specs.declared.typed.BadEagerStateKeyError.{BadEagerStateKeyError}
use Rattle.journal_model.specs.Notification.{Bytes}
use Rattle.protocol_records.specs.declared.start.StartMessage.{StartMessage}
use Rattle.protocol_records.specs.declared.start.StateEntry.{StateEntry}
use Rattle.protocol_errors.specs.Code.{internal, protocol_violation}
use Rattle.protocol_errors.specs.declared.fixed.FixedError.TheVariants as fixed
use Rattle.protocol_errors.specs.FixedErrors.{fixed_text}
use Rattle.protocol_errors.specs.Texts.{bad_state_key_text}
use Rattle.protocol_stream.specs.ErrorText.{no_memory_text}
use Rattle.vm_context.specs.Eager.{known_from}
use Rattle.vm_context.specs.StateKnowledge.{KnowsState, start_state_of}
use Rattle.vm_start.specs.declared.start.Started.{Started}
use Rattle.vm_start.specs.declared.error.StartError.{StartError}
use Rattle.vm_start.specs.declared.error.StartError.TheVariants.{BadStateKey, KnownEntriesIsZero, OutOfMemory}

abbrev pub pair_of : StateEntry → Bytes × Bytes
pair_of entry = (entry.key, entry.value)

-- a key and its value, in the order of the entries
abbrev pub pairs_of : List StateEntry → List (Bytes × Bytes)
pairs_of entries = map pair_of entries

-- the bytes of the id of the invocation that was started; before a start they are none
abbrev pub started_id : Option StartMessage → Bytes
started_id None = []
started_id (Some start) = start.id

-- a start of no state
abbrev pub without_state : StartMessage → StartMessage
without_state start = record start { state_map = [] }

-- ---- keys

-- each key is a text
abbrev pub AreText : List StateEntry → Type 0
AreText [] = Unit {0}
AreText (entry ∷ entries) = IsUtf8 entry.key × AreText entries

-- the key is no text: the error has it, how much of it is text, and how much behind that is none, where more follows
abbrev pub IsNoText : Bytes → BadEagerStateKeyError → Type 0
IsNoText key error =
    (IsUtf8 key → ⊥) × ((error.0.bytes ≡ key) × ((valid_up_to error.0.error ≡ utf8_valid_len key) × (error_len error.0.error ≡ utf8_error_len (drop (valid_up_to error.0.error) key))))

-- the first key that is no text
abbrev pub FirstNotText : List StateEntry → BadEagerStateKeyError → Type 0
FirstNotText [] error = ⊥
FirstNotText (entry ∷ entries) error = IsNoText entry.key error ⊎ (IsUtf8 entry.key × FirstNotText entries error)

-- ---- the start

-- the attempt begins: keys are text, an entry is announced at least, and what is known of the state is what is shown
pub record BeginsStarted (start : StartMessage) (started : Started) : Type 0 where
  pub text : AreText start.state_map
  pub announced : 0 < start.known_entries
  pub rest : started.start ≡ without_state start
  pub shown : started.state ≡ known_from start.partial_state (pairs_of start.state_map)
  pub knows : KnowsState started.state (start_state_of start.partial_state (pairs_of start.state_map)) []

-- why a key is not taken
abbrev pub KeyFails : Bytes → StartError → Type 0
KeyFails key (BadStateKey error) = IsNoText key error
KeyFails key KnownEntriesIsZero = ⊥
KeyFails key OutOfMemory = Unit {0}

abbrev pub KeysFail : List StateEntry → StartError → Type 0
KeysFail entries (BadStateKey error) = FirstNotText entries error
KeysFail entries KnownEntriesIsZero = ⊥
KeysFail entries OutOfMemory = Unit {0}

-- why an attempt does not begin
abbrev pub StartFails : StartMessage → StartError → Type 0
StartFails start (BadStateKey error) = FirstNotText start.state_map error
StartFails start KnownEntriesIsZero = AreText start.state_map × (start.known_entries ≡ 0)
StartFails start OutOfMemory = Unit {0}

-- ---- what an error is called

abbrev pub start_code : StartError → ℕ
start_code (BadStateKey error) = internal
start_code KnownEntriesIsZero = protocol_violation
start_code OutOfMemory = internal

-- what is printed of it
abbrev pub start_text : StartError → List ℕ
start_text (BadStateKey error) = bad_state_key_text error
start_text KnownEntriesIsZero = fixed_text fixed.KnownEntriesIsZero
start_text OutOfMemory = no_memory_text
