-- The one line by which what a client says is printed.
use Rattle.std.specs.Prelude.{◌≡◌, ℕ, ◌^◌, ◌<◌, false, List, [], ◌∷◌, Some, codes, decimal}
use Rattle.std.specs.List.{join_with_byte}
use Rattle.server_lines.specs.Request.{IsRequest, words_of as request_words}
use Rattle.server_lines.specs.Word.{IsText, text_word}
use Rattle.call_lines.specs.Call.{IsSaid, said_words}
use Rattle.call_lines.specs.LineReader.{client_line_of, is_of_host}
use Rattle.call_lines.specs.Outcome.{IsOutcome, outcome_words}
use Rattle.call_lines.specs.declared.line.ClientLine.{ClientLine}
use Rattle.call_lines.specs.declared.line.ClientLine.TheVariants as lines

abbrev pub line_words : ClientLine → List (List ℕ)
line_words (lines.Attempt id now) = codes "attempt" ∷ text_word id ∷ decimal now ∷ []
line_words (lines.Do id attempt said) = codes "do" ∷ text_word id ∷ decimal attempt ∷ said_words said
line_words (lines.Outcome id attempt handle outcome) = codes "outcome" ∷ text_word id ∷ decimal attempt ∷ decimal handle ∷ outcome_words outcome
line_words (lines.Go id attempt) = codes "go" ∷ text_word id ∷ decimal attempt ∷ []
line_words (lines.Suspend id attempt) = codes "suspend" ∷ text_word id ∷ decimal attempt ∷ []
line_words (lines.Asks request) = request_words request

abbrev pub line_spelling : ClientLine → List ℕ
line_spelling line = join_with_byte 32 (line_words line)

-- the lines that code can hold, but for parts of calls and requests that no words spell
abbrev pub IsLine : ClientLine → Type 0
IsLine (lines.Attempt id now) = IsText id × (now < 2 ^ 64)
IsLine (lines.Do id attempt said) = IsText id × (attempt < 2 ^ 32) × IsSaid said
IsLine (lines.Outcome id attempt handle outcome) = IsText id × (attempt < 2 ^ 32) × (handle < 2 ^ 32) × IsOutcome outcome
IsLine (lines.Go id attempt) = IsText id × (attempt < 2 ^ 32)
IsLine (lines.Suspend id attempt) = IsText id × (attempt < 2 ^ 32)
IsLine (lines.Asks request) = IsRequest request × (is_of_host request ≡ false)

-- each of these lines is what it is printed as
abbrev pub ReadsBack : Type 0
ReadsBack = (line : ClientLine) → IsLine line → client_line_of (line_spelling line) ≡ Some line
