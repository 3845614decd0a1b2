-- What a line of a client says.
use Rattle.std.specs.Prelude.{ℕ, ◌^◌, ◌==◌, Bool, true, false, List, [], ◌∷◌, Option, Some, None, if◌then◌else◌}
use Rattle.std.specs.List.{slice_split}
use Rattle.script_lines.specs.LineReader.{◌>>=◌, number_below}
use Rattle.server_lines.specs.RequestReader.{request_of}
use Rattle.server_lines.specs.WordReader.{text_of}
use Rattle.server_lines.specs.declared.request.Request.{Request}
use Rattle.server_lines.specs.declared.request.Request.TheVariants as requests
use Rattle.call_lines.specs.CallReader.{said_of}
use Rattle.call_lines.specs.CommandReader.{line_word_of}
use Rattle.call_lines.specs.OutcomeReader.{outcome_of}
use Rattle.call_lines.specs.declared.command.LineWord.{LineWord}
use Rattle.call_lines.specs.declared.command.LineWord.TheVariants as kinds
use Rattle.call_lines.specs.declared.line.ClientLine.{ClientLine}
use Rattle.call_lines.specs.declared.line.ClientLine.TheVariants as lines

unfoldable pub attempt_of : List (List ℕ) → Option ClientLine
attempt_of (id ∷ now ∷ []) = do
  now ← number_below (2 ^ 64) now
  id ← text_of id
  Some (lines.Attempt id now)
attempt_of words = None

unfoldable pub do_of : List (List ℕ) → Option ClientLine
do_of (id ∷ attempt ∷ said) = do
  attempt ← number_below (2 ^ 32) attempt
  id ← text_of id
  said ← said_of said
  Some (lines.Do id attempt said)
do_of words = None

unfoldable pub outcome_line_of : List (List ℕ) → Option ClientLine
outcome_line_of (id ∷ attempt ∷ handle ∷ outcome) = do
  attempt ← number_below (2 ^ 32) attempt
  handle ← number_below (2 ^ 32) handle
  id ← text_of id
  outcome ← outcome_of outcome
  Some (lines.Outcome id attempt handle outcome)
outcome_line_of words = None

unfoldable pub go_of : List (List ℕ) → Option ClientLine
go_of (id ∷ attempt ∷ []) = do
  attempt ← number_below (2 ^ 32) attempt
  id ← text_of id
  Some (lines.Go id attempt)
go_of words = None

unfoldable pub suspend_of : List (List ℕ) → Option ClientLine
suspend_of (id ∷ attempt ∷ []) = do
  attempt ← number_below (2 ^ 32) attempt
  id ← text_of id
  Some (lines.Suspend id attempt)
suspend_of words = None

unfoldable pub arguments_of : LineWord → List (List ℕ) → Option ClientLine
arguments_of kinds.Attempt = attempt_of
arguments_of kinds.Do = do_of
arguments_of kinds.Outcome = outcome_line_of
arguments_of kinds.Go = go_of
arguments_of kinds.Suspend = suspend_of

-- ---- requests

-- those by which a host drives an attempt
abbrev pub is_of_host : Request → Bool
is_of_host (requests.Begin id now) = true
is_of_host (requests.Input id attempt most) = true
is_of_host (requests.Output id attempt bytes) = true
is_of_host (requests.Close id attempt) = true
is_of_host _ = false

-- the others are lines of a client
unfoldable pub asked_of : Request → Option ClientLine
asked_of request = if is_of_host request then None else Some (lines.Asks request)

unfoldable pub request_line_of : List ℕ → Option ClientLine
request_line_of line = do
  request ← request_of line
  asked_of request

-- ---- lines

unfoldable pub line_by : Option LineWord → List ℕ → List (List ℕ) → Option ClientLine
line_by (Some word) line words = arguments_of word words
line_by None line words = request_line_of line

unfoldable pub line_spelled : List ℕ → List (List ℕ) → Option ClientLine
line_spelled line [] = None
line_spelled line (word ∷ words) = line_by (line_word_of word) line words

-- what a line says, without its line feed
abbrev pub client_line_of : List ℕ → Option ClientLine
client_line_of line = line_spelled line (slice_split (λ byte. byte == 32) line)
