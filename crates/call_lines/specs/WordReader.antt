-- What the words of calls spell.
use Rattle.std.specs.Prelude.{ℕ, ◌^◌, ◌*◌, List, [], ◌∷◌, Option, Some, None, codes, if◌then◌else◌, bytes_eq}
use Rattle.journal_model.specs.declared.value.NonEmptyValue.{NonEmptyValue}
use Rattle.journal_model.specs.declared.value.NonEmptyValue.TheVariants.{Success, Failure}
use Rattle.journal_model.specs.declared.value.TerminalFailure.{TerminalFailure}
use Rattle.script_lines.specs.LineReader.{◌>>=◌, at_colon, number_below}
use Rattle.server_lines.specs.WordReader.{tail_of, text_of, unescaped}

-- a text that may be none
unfoldable pub optional_of : List ℕ → Option (Option (List ℕ))
optional_of word = if bytes_eq word (codes "none") then Some None else (do
  parts ← at_colon word
  if bytes_eq parts.0 (codes "t") then (do
    text ← tail_of parts.1
    Some (Some text)) else None)

-- a name, which may be left out
unfoldable pub name_of : List (List ℕ) → Option (Option (List ℕ))
name_of [] = Some None
name_of (word ∷ []) = do
  name ← text_of word
  Some (Some name)
name_of words = None

unfoldable pub name_or_empty_of : List (List ℕ) → Option (List ℕ)
name_or_empty_of [] = Some []
name_or_empty_of (word ∷ []) = text_of word
name_or_empty_of words = None

-- a moment in milliseconds, told in nanoseconds
unfoldable pub moment_of : List ℕ → Option ℕ
moment_of word = do
  millis ← number_below (2 ^ 64) word
  Some (millis * 1_000_000)

unfoldable pub time_of : List ℕ → Option (Option ℕ)
time_of word = if bytes_eq word (codes "now") then Some None else (do
  moment ← moment_of word
  Some (Some moment))

unfoldable pub pair_read : List ℕ → List ℕ → Option (List ℕ × List ℕ)
pair_read key value = do
  key ← text_of key
  value ← text_of value
  Some (key, value)

-- pairs, each by its name and its value
unfoldable pub pairs_of : List (List ℕ) → Option (List (List ℕ × List ℕ))
pairs_of [] = Some []
pairs_of (key ∷ []) = None
pairs_of (key ∷ value ∷ words) = do
  pair ← pair_read key value
  pairs ← pairs_of words
  Some (pair ∷ pairs)

-- a code, and a message behind a colon
unfoldable pub told_of : List ℕ → Option (ℕ × List ℕ)
told_of text = do
  parts ← at_colon text
  code ← number_below (2 ^ 16) parts.0
  message ← tail_of parts.1
  Some (code, message)

unfoldable pub failure_of : List ℕ → List (List ℕ) → Option TerminalFailure
failure_of text pairs = do
  told ← told_of text
  metadata ← pairs_of pairs
  Some (record { code = told.0; message = told.1; metadata = metadata })

unfoldable pub success_of : List ℕ → List (List ℕ) → Option NonEmptyValue
success_of text [] = do
  bytes ← unescaped text
  Some (Success bytes)
success_of text pairs = None

-- the value of a kind, spelled behind the colon
unfoldable pub value_in : List ℕ → List ℕ → List (List ℕ) → Option NonEmptyValue
value_in kind text pairs =
    if bytes_eq kind (codes "v") then success_of text pairs else
    (if bytes_eq kind (codes "f") then (do
      failure ← failure_of text pairs
      Some (Failure failure)) else None)

unfoldable pub value_of : List (List ℕ) → Option NonEmptyValue
value_of [] = None
value_of (word ∷ pairs) = do
  parts ← at_colon word
  value_in parts.0 parts.1 pairs
