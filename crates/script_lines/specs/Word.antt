-- What the words of a script's line spell.
use Rattle.std.specs.Prelude.{◌≡◌, ◌≢◌, ℕ, ◌^◌, ◌<◌, ◌≤◌, List, [], ◌∷◌, ◌++◌, All, Option, Some, None, codes, decimal}
use Rattle.script_lines.specs.declared.word.HandlerName.{HandlerName}
use Rattle.script_lines.specs.declared.word.HandlerName.TheVariants.{Nap, Nap99, Race, Both, Ask, Pair, Twice, Keys, Read, Effect, Go, Hook, Quorum}
use Rattle.journal_model.specs.declared.invocation.StateMode.{StateMode}
use Rattle.journal_model.specs.declared.notification.SignalKey.{SignalKey}
use Rattle.journal_model.specs.declared.notification.SignalKey.TheVariants.{ByIndex, ByName}
use Rattle.script_lines.specs.declared.value.LineValue.{LineValue}
use Rattle.script_lines.specs.declared.value.LineValue.TheVariants.{Void, Value, Failure, InvocationId}
use Rattle.script_lines.specs.declared.outcome.LineOutcome.{LineOutcome}
use Rattle.script_lines.specs.declared.outcome.LineOutcome.TheVariants as outcome

-- what a reader answers: the value that the bytes spell, and nothing where they spell none
abbrev pub ReadsWord : {A : Type 0} → (A → List ℕ) → (A → Type 0) → List ℕ → Option A → Type 0
ReadsWord spelled IsValue bytes (Some value) = IsValue value × (bytes ≡ spelled value)
ReadsWord spelled IsValue bytes None = (value : _) → IsValue value → bytes ≢ spelled value

-- a text's word: its bytes, and a dash for the empty text
abbrev pub text_word : List ℕ → List ℕ
text_word [] = codes "-"
text_word (byte ∷ bytes) = byte ∷ bytes

-- the bytes of words: those that print, but the space
abbrev pub IsWordByte : ℕ → Type 0
IsWordByte byte = (33 ≤ byte) × (byte ≤ 126)

-- a text that has a word: the dash alone stands for the empty text
pub record IsText (text : List ℕ) : Type 0 where
  pub bytes : All IsWordByte text
  pub no_dash : text ≢ codes "-"

abbrev pub mode_word : StateMode → List ℕ
mode_word StateMode.Whole = codes "whole"
mode_word StateMode.None = codes "none"

abbrev pub handler_word : HandlerName → List ℕ
handler_word Nap = codes "nap"
handler_word Nap99 = codes "nap99"
handler_word Race = codes "race"
handler_word Both = codes "both"
handler_word Ask = codes "ask"
handler_word Pair = codes "pair"
handler_word Twice = codes "twice"
handler_word Keys = codes "keys"
handler_word Read = codes "read"
handler_word Effect = codes "effect"
handler_word Go = codes "go"
handler_word Hook = codes "hook"
handler_word Quorum = codes "quorum"

-- a code, and a text behind a colon (58)
abbrev pub coded_word : ℕ → List ℕ → List ℕ
coded_word code message = decimal code ++ 58 ∷ message

-- a value's word; the text behind a colon is as it is, and may be empty
abbrev pub value_word : LineValue → List ℕ
value_word Void = codes "void"
value_word (Value bytes) = codes "v:" ++ bytes
value_word (Failure code message) = codes "f:" ++ coded_word code message
value_word (InvocationId id) = codes "id:" ++ id

-- the codes and texts that have a word
abbrev pub IsCoded : ℕ → List ℕ → Type 0
IsCoded code message = (code < 2 ^ 16) × All IsWordByte message

-- the values that have a word
abbrev pub IsValue : LineValue → Type 0
IsValue Void = Unit {0}
IsValue (Value bytes) = All IsWordByte bytes
IsValue (Failure code message) = IsCoded code message
IsValue (InvocationId id) = All IsWordByte id

-- the word of how a body ends
abbrev pub outcome_word : LineOutcome → List ℕ
outcome_word (outcome.Success bytes) = codes "ok:" ++ bytes
outcome_word (outcome.Failure code message) = codes "fail:" ++ coded_word code message
outcome_word (outcome.Retry code message) = codes "retry:" ++ coded_word code message

-- the outcomes that have a word
abbrev pub IsOutcome : LineOutcome → Type 0
IsOutcome (outcome.Success bytes) = All IsWordByte bytes
IsOutcome (outcome.Failure code message) = IsCoded code message
IsOutcome (outcome.Retry code message) = IsCoded code message

-- a signal's number behind a '#' (35), or its name
abbrev pub number_word : ℕ → List ℕ
number_word number = 35 ∷ decimal number

abbrev pub target_word : SignalKey → List ℕ
target_word (ByIndex number) = number_word number
target_word (ByName name) = text_word name

-- The signals that have a word. A name is not spelled as a number is.
abbrev pub IsTarget : SignalKey → Type 0
IsTarget (ByIndex number) = number < 2 ^ 32
IsTarget (ByName name) = IsText name × ((number : ℕ) → number < 2 ^ 32 → name ≢ number_word number)
