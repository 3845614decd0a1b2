-- What is amiss with a line that is not understood.
use Rattle.std.specs.Prelude.{ℕ, ◌^◌, ◌&&◌, ◌||◌, ◌==◌, Bool, false, List, ◌++◌, length, Option, Some, None, is_some, codes, decimal, if◌then◌else◌, nat_lt}
use Rattle.std.specs.List.{list_all}
use Rattle.protocol_types.specs.Texts.{hex_byte}
use Rattle.script_lines.specs.declared.word.Command.{Command}
use Rattle.script_lines.specs.declared.word.Command.TheVariants as command
use Rattle.script_lines.specs.declared.flaw.LineFlaw.{LineFlaw}
use Rattle.script_lines.specs.declared.flaw.LineFlaw.TheVariants as flaw
use Rattle.script_lines.specs.declared.flaw.WordKind.{WordKind}
use Rattle.script_lines.specs.declared.flaw.WordKind.TheVariants as kind
use Rattle.script_lines.specs.LineReader.{number_below, mode_of, handler_of, coded_of, value_in, line_value_of, outcome_in, outcome_of, is_word_byte}

-- what a word of a kind is, as it is told behind one that is not
abbrev pub wanted_text : WordKind → List ℕ
wanted_text kind.Text = codes "is no text"
wanted_text kind.Number = codes "is no number from 0 to 4294967295, without leading zeros"
wanted_text kind.LongNumber = codes "is no number from 0 to 18446744073709551615, without leading zeros"
wanted_text kind.Turns = codes "is no number from 1 to 4294967295, without leading zeros"
wanted_text kind.StateMode = codes "is no mode: whole, none"
wanted_text kind.Handler = codes "is no handler: ask, both, effect, go, hook, keys, nap, nap99, pair, quorum, race, read, twice"
wanted_text kind.Value = codes "is no value: void, v:TEXT, f:CODE:TEXT, id:TEXT"
wanted_text kind.Outcome = codes "is no outcome: ok:TEXT, fail:CODE:TEXT, retry:CODE:TEXT"

-- how a line with a command is written
abbrev pub usage_text : Command → List ℕ
usage_text command.Invoke = codes "invoke ID OBJECT VERSION whole|none SEED INPUT"
usage_text command.Result = codes "result ID COMPLETION VALUE"
usage_text command.Signal = codes "signal ID NAME|#N VALUE"
usage_text command.Cancel = codes "cancel ID"
usage_text command.Tick = codes "tick MS"
usage_text command.Begin = codes "begin ID HANDLER MS"
usage_text command.Feed = codes "feed ID ATTEMPT N"
usage_text command.Close = codes "close ID ATTEMPT"
usage_text command.Turn = codes "turn ID ATTEMPT N [OUTCOME]"
usage_text command.Move = codes "move ID ATTEMPT N"
usage_text command.Stop = codes "stop ID ATTEMPT"
usage_text command.Due = codes "due"
usage_text command.Show = codes "show ID"
usage_text command.State = codes "state OBJECT"

abbrev pub flaw_text : LineFlaw → List ℕ
flaw_text flaw.CarriageReturn = codes "a carriage return stands in it, and a line ends with a line feed alone"
flaw_text (flaw.Byte byte) = codes "byte 0x" ++ hex_byte byte ++ codes " stands in it, and words are of ASCII that prints"
flaw_text flaw.Spaces = codes "one space stands between two words, and none at an end"
flaw_text (flaw.Command word) = word.now ++ codes " is no command: begin, cancel, close, due, feed, invoke, move, result, show, signal, state, stop, tick, turn"
flaw_text (flaw.Count command count) = codes "words: " ++ decimal count ++ codes ", wanted: " ++ usage_text command
flaw_text (flaw.Word kind word) = word.now ++ codes " " ++ wanted_text kind

abbrev pub is_positive : Option ℕ → Bool
is_positive None = false
is_positive (Some number) = nat_lt 0 number

abbrev pub is_coded : List ℕ → Bool
is_coded text = is_some (coded_of text)

-- whether a value, or an outcome, of a kind is spelled behind the colon
abbrev pub is_value_of : (kind text : List ℕ) → Bool
is_value_of kind text = is_some (value_in kind text)

abbrev pub is_outcome_of : (kind text : List ℕ) → Bool
is_outcome_of kind text = is_some (outcome_in kind text)

-- whether a word is of a kind
abbrev pub fits : WordKind → List ℕ → Bool
fits kind.Text word = nat_lt 0 (length word) && list_all is_word_byte word
fits kind.Number word = is_some (number_below (2 ^ 32) word)
fits kind.LongNumber word = is_some (number_below (2 ^ 64) word)
fits kind.Turns word = is_positive (number_below (2 ^ 32) word)
fits kind.StateMode word = is_some (mode_of word)
fits kind.Handler word = is_some (handler_of word)
fits kind.Value word = is_some (line_value_of word)
fits kind.Outcome word = is_some (outcome_of word)

-- what the word at this place behind a command stands for
abbrev pub kind_at : Command → ℕ → WordKind
kind_at command.Invoke place = if place == 2 then kind.Number else (if place == 3 then kind.StateMode else (if place == 4 then kind.LongNumber else kind.Text))
kind_at command.Turn place = if place == 0 then kind.Text else (if place == 1 then kind.Number else (if place == 2 then kind.Turns else kind.Outcome))
kind_at command.Result place = if place == 0 then kind.Text else (if place == 1 then kind.Number else kind.Value)
kind_at command.Signal place = if place == 2 then kind.Value else kind.Text
kind_at command.Begin place = if place == 0 then kind.Text else (if place == 1 then kind.Handler else kind.LongNumber)
kind_at command.Tick place = kind.LongNumber
kind_at command place = if place == 0 then kind.Text else kind.Number

-- whether so many words may stand behind a command
abbrev pub is_count_of : Command → ℕ → Bool
is_count_of command.Invoke count = count == 6
is_count_of command.Turn count = (count == 3) || (count == 4)
is_count_of command.Result count = count == 3
is_count_of command.Signal count = count == 3
is_count_of command.Begin count = count == 3
is_count_of command.Feed count = count == 3
is_count_of command.Move count = count == 3
is_count_of command.Close count = count == 2
is_count_of command.Stop count = count == 2
is_count_of command.Due count = count == 0
is_count_of command count = count == 1
