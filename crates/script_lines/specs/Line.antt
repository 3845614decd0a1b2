-- The lines of a script, and the one spelling of each.
use Rattle.std.specs.Prelude.{ℕ, ◌<◌, ◌≤◌, ◌^◌, List, [], ◌∷◌, Option, Some, None, IfSome, codes, decimal}
use Rattle.std.specs.List.{join_with_byte}
use Rattle.script_lines.specs.declared.line.Line.{Line}
use Rattle.script_lines.specs.declared.line.Line.TheVariants.{Invoke, Result, Signal, Cancel, Tick, Begin, Feed, Close, Turn, Move, Stop, Due, Show, State}
use Rattle.script_lines.specs.Word.{text_word, IsText, mode_word, handler_word, target_word, IsTarget, value_word, IsValue, outcome_word, IsOutcome}
use Rattle.script_lines.specs.declared.outcome.LineOutcome.{LineOutcome}

-- the word of an outcome, or none where it is left out
abbrev pub outcome_words : Option LineOutcome → List (List ℕ)
outcome_words None = []
outcome_words (Some outcome) = outcome_word outcome ∷ []

-- the words of a line: a command, and what it is about; numbers are decimal
abbrev pub words_of : Line → List (List ℕ)
words_of (Invoke id object version state seed input) =
    codes "invoke" ∷ text_word id ∷ text_word object ∷ decimal version ∷ mode_word state ∷ decimal seed ∷ text_word input ∷ []
words_of (Result id completion value) = codes "result" ∷ text_word id ∷ decimal completion ∷ value_word value ∷ []
words_of (Signal id target value) = codes "signal" ∷ text_word id ∷ target_word target ∷ value_word value ∷ []
words_of (Cancel id) = codes "cancel" ∷ text_word id ∷ []
words_of (Tick now) = codes "tick" ∷ decimal now ∷ []
words_of (Begin id handler now) = codes "begin" ∷ text_word id ∷ handler_word handler ∷ decimal now ∷ []
words_of (Feed id attempt count) = codes "feed" ∷ text_word id ∷ decimal attempt ∷ decimal count ∷ []
words_of (Close id attempt) = codes "close" ∷ text_word id ∷ decimal attempt ∷ []
words_of (Turn id attempt count outcome) = codes "turn" ∷ text_word id ∷ decimal attempt ∷ decimal count ∷ outcome_words outcome
words_of (Move id attempt count) = codes "move" ∷ text_word id ∷ decimal attempt ∷ decimal count ∷ []
words_of (Stop id attempt) = codes "stop" ∷ text_word id ∷ decimal attempt ∷ []
words_of Due = codes "due" ∷ []
words_of (Show id) = codes "show" ∷ text_word id ∷ []
words_of (State object) = codes "state" ∷ text_word object ∷ []

-- the spelling of a line: its words, with one space between two
abbrev pub spelled : Line → List ℕ
spelled line = join_with_byte 32 (words_of line)

-- what has a spelling: texts that have a word, numbers that fit, and at least one turn
abbrev pub IsLine : Line → Type 0
IsLine (Invoke id object version state seed input) =
    IsText id × IsText object × (version < 2 ^ 32) × (seed < 2 ^ 64) × IsText input
IsLine (Result id completion value) = IsText id × (completion < 2 ^ 32) × IsValue value
IsLine (Signal id target value) = IsText id × IsTarget target × IsValue value
IsLine (Cancel id) = IsText id
IsLine (Tick now) = now < 2 ^ 64
IsLine (Begin id handler now) = IsText id × (now < 2 ^ 64)
IsLine (Feed id attempt count) = IsText id × (attempt < 2 ^ 32) × (count < 2 ^ 32)
IsLine (Close id attempt) = IsText id × (attempt < 2 ^ 32)
IsLine (Turn id attempt count outcome) = IsText id × (attempt < 2 ^ 32) × (1 ≤ count) × (count < 2 ^ 32) × IfSome outcome IsOutcome
IsLine (Move id attempt count) = IsText id × (attempt < 2 ^ 32) × (count < 2 ^ 32)
IsLine (Stop id attempt) = IsText id × (attempt < 2 ^ 32)
IsLine Due = Unit {0}
IsLine (Show id) = IsText id
IsLine (State object) = IsText object
