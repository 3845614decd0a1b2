-- The one word by which a value is printed, and which values have one.
use Rattle.std.specs.Prelude.{◌≡◌, ℕ, ◌+◌, ◌-◌, ◌^◌, ◌<◌, List, [], ◌∷◌, ◌++◌, All, IsUtf8, codes, decimal, if◌then◌else◌, bytes_eq}
use Rattle.percent_encoding.specs.declared.ascii_set.AsciiSet.{AsciiSet}
use Rattle.percent_encoding.specs.Percent.{percent_encode}
use Rattle.journal_model.specs.declared.notification.NotificationResult.{NotificationResult}
use Rattle.journal_model.specs.declared.notification.NotificationResult.TheVariants.{Void, Value, Failure, InvocationId, StateKeys}
use Rattle.journal_model.specs.declared.notification.SignalKey.{SignalKey}
use Rattle.journal_model.specs.declared.notification.SignalKey.TheVariants.{ByIndex, ByName}
use Rattle.script_lines.specs.Word.{number_word}

-- the ASCII bytes that are printed as escapes: below 33, '#' (35), '%' (37) and 127
abbrev pub escaped_set : AsciiSet
escaped_set = record { mask = 2 ^ 33 - 1 + 2 ^ 35 + 2 ^ 37 + 2 ^ 127 }

abbrev pub escaped : List ℕ → List ℕ
escaped bytes = percent_encode escaped_set bytes

-- the word of bytes, and of a text: a dash for none, which alone is escaped itself
abbrev pub text_word : List ℕ → List ℕ
text_word [] = codes "-"
text_word (byte ∷ bytes) = if bytes_eq (byte ∷ bytes) (codes "-") then codes "%2D" else escaped (byte ∷ bytes)

-- a value's word; what stands behind a colon may be empty
abbrev pub value_word : NotificationResult → List ℕ
value_word Void = codes "void"
value_word (Value bytes) = codes "v:" ++ escaped bytes
value_word (Failure failure) = codes "f:" ++ decimal failure.code ++ 58 ∷ escaped failure.message
value_word (InvocationId id) = codes "id:" ++ escaped id
value_word (StateKeys keys) = codes "keys"

abbrev pub key_word : SignalKey → List ℕ
key_word (ByIndex number) = number_word number
key_word (ByName name) = text_word name

abbrev pub IsByte : ℕ → Type 0
IsByte byte = byte < 256

-- bytes that are UTF-8
pub record IsText (text : List ℕ) : Type 0 where
  pub bytes : All IsByte text
  pub utf8 : IsUtf8 text

-- the values that a request can bring: failures without pairs, and no state keys
abbrev pub IsValue : NotificationResult → Type 0
IsValue Void = Unit {0}
IsValue (Value bytes) = All IsByte bytes
IsValue (Failure failure) = (failure.code < 2 ^ 32) × IsText failure.message × (failure.metadata ≡ [])
IsValue (InvocationId id) = IsText id
IsValue (StateKeys keys) = ⊥

abbrev pub IsKey : SignalKey → Type 0
IsKey (ByIndex number) = number < 2 ^ 32
IsKey (ByName name) = IsText name
