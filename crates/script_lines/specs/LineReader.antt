-- Reading a line from its words, as a computation: what the parts of the reader cite. What asks for no memory is read first. That it reads just
-- the spellings of lines is what the public reader says.
use Rattle.std.specs.Prelude.{◌≡◌, ℕ, ◌+◌, ◌^◌, ◌&&◌, ◌==◌, Bool, List, take, drop, option_map, [], ◌∷◌, length, Option, Some, None, Result, Ok, Err, option_and_then, codes, if◌then◌else◌, bytes_eq, decimal, nat_lt, nat_le}
use Rattle.std.specs.List.{list_all, position}
use Rattle.std.specs.Str.Parse.{digits_value}
use Rattle.script_lines.specs.declared.word.HandlerName.{HandlerName}
use Rattle.script_lines.specs.declared.word.HandlerName.TheVariants.{Nap, Nap99, Race, Both, Ask, Pair, Twice, Keys, Read, Effect, Go, Hook, Quorum}
use Rattle.script_lines.specs.Word.{handler_word}
use Rattle.script_lines.specs.declared.word.LineError.{LineError}
use Rattle.script_lines.specs.declared.word.LineError.TheVariants.{NotUnderstood, Memory}
use Rattle.script_lines.specs.declared.word.Command.{Command}
use Rattle.script_lines.specs.declared.word.Command.TheVariants.{Invoke as InvokeCommand, Result as ResultCommand, Signal as SignalCommand, Cancel as CancelCommand, Tick as TickCommand, Begin as BeginCommand, Feed as FeedCommand, Close as CloseCommand, Turn as TurnCommand, Move as MoveCommand, Stop as StopCommand, Due as DueCommand, Show as ShowCommand, State as StateCommand}
use Rattle.journal_model.specs.declared.invocation.StateMode.{StateMode}
use Rattle.journal_model.specs.declared.notification.SignalKey.{SignalKey}
use Rattle.journal_model.specs.declared.notification.SignalKey.TheVariants.{ByIndex, ByName}
use Rattle.script_lines.specs.declared.value.LineValue.{LineValue}
use Rattle.script_lines.specs.declared.value.LineValue.TheVariants.{Void, Value, Failure, InvocationId}
use Rattle.script_lines.specs.declared.outcome.LineOutcome.{LineOutcome}
use Rattle.script_lines.specs.declared.outcome.LineOutcome.TheVariants as outcome
use Rattle.script_lines.specs.declared.line.Line.{Line}
use Rattle.script_lines.specs.declared.line.Line.TheVariants.{Invoke, Result as ResultLine, Signal, Cancel, Tick, Begin, Feed, Close, Turn, Move, Stop, Due, Show, State}

-- the next step of a reading, where there was a value so far
unfoldable pub then_read : {A B : Type 0} → Option A → (A → Option B) → Option B
then_read o next = option_and_then next o

infixl 10 ◌>>=◌
abbrev pub ◌>>=◌ : {A B : Type 0} → Option A → (A → Option B) → Option B
o >>= next = then_read o next

-- a function answered what the reading gives, unless memory ran out
abbrev pub Gives : {A : Type 0} → Result A LineError → Option A → Type 0
Gives (Ok value) read = read ≡ Some value
Gives (Err NotUnderstood) read = read ≡ None
Gives (Err Memory) read = Unit {0}

-- the number that a word spells, where it is below the limit
unfoldable pub number_below : ℕ → List ℕ → Option ℕ
number_below limit word = let number = digits_value 10 word in
    if bytes_eq word (decimal number) && nat_lt number limit then Some number else None

abbrev pub is_word_byte : ℕ → Bool
is_word_byte byte = nat_le 33 byte && nat_le byte 126

unfoldable pub printable_of : List ℕ → Option (List ℕ)
printable_of bytes = if list_all is_word_byte bytes then Some bytes else None

unfoldable pub text_read : List ℕ → Option (List ℕ)
text_read word = if bytes_eq word (codes "-") then Some [] else
    (if nat_lt 0 (length word) then printable_of word else None)

unfoldable pub mode_of : List ℕ → Option StateMode
mode_of word = if bytes_eq word (codes "whole") then Some StateMode.Whole else
    (if bytes_eq word (codes "none") then Some StateMode.None else None)

unfoldable pub handler_of : List ℕ → Option HandlerName
handler_of word =
    if bytes_eq word (handler_word Nap) then Some Nap else
    (if bytes_eq word (handler_word Nap99) then Some Nap99 else
    (if bytes_eq word (handler_word Race) then Some Race else
    (if bytes_eq word (handler_word Both) then Some Both else
    (if bytes_eq word (handler_word Ask) then Some Ask else
    (if bytes_eq word (handler_word Pair) then Some Pair else
    (if bytes_eq word (handler_word Twice) then Some Twice else
    (if bytes_eq word (handler_word Keys) then Some Keys else
    (if bytes_eq word (handler_word Read) then Some Read else
    (if bytes_eq word (handler_word Effect) then Some Effect else
    (if bytes_eq word (handler_word Go) then Some Go else
    (if bytes_eq word (handler_word Hook) then Some Hook else
    (if bytes_eq word (handler_word Quorum) then Some Quorum else None))))))))))))

-- what stands before the first colon, and behind it
unfoldable pub at_colon : List ℕ → Option (List ℕ × List ℕ)
at_colon bytes = option_map (λ place. (take place bytes, drop (place + 1) bytes)) (position (λ byte. byte == 58) bytes)

-- a code, and the text behind the colon
unfoldable pub coded_of : List ℕ → Option (ℕ × List ℕ)
coded_of bytes = do
  parts ← at_colon bytes
  code ← number_below (2 ^ 16) parts.0
  message ← printable_of parts.1
  Some (code, message)

-- the value of a kind, spelled behind the colon
unfoldable pub value_in : List ℕ → List ℕ → Option LineValue
value_in kind text =
    if bytes_eq kind (codes "v") then (do
      bytes ← printable_of text
      Some (Value bytes)) else
    (if bytes_eq kind (codes "f") then (do
      coded ← coded_of text
      Some (Failure coded.0 coded.1)) else
    (if bytes_eq kind (codes "id") then (do
      id ← printable_of text
      Some (InvocationId id)) else None))

unfoldable pub line_value_of : List ℕ → Option LineValue
line_value_of word = if bytes_eq word (codes "void") then Some Void else (do
  parts ← at_colon word
  value_in parts.0 parts.1)

-- the outcome of a kind, spelled behind the colon
unfoldable pub outcome_in : List ℕ → List ℕ → Option LineOutcome
outcome_in kind text =
    if bytes_eq kind (codes "ok") then (do
      bytes ← printable_of text
      Some (outcome.Success bytes)) else
    (if bytes_eq kind (codes "fail") then (do
      coded ← coded_of text
      Some (outcome.Failure coded.0 coded.1)) else
    (if bytes_eq kind (codes "retry") then (do
      coded ← coded_of text
      Some (outcome.Retry coded.0 coded.1)) else None))

unfoldable pub outcome_of : List ℕ → Option LineOutcome
outcome_of word = do
  parts ← at_colon word
  outcome_in parts.0 parts.1

-- the number behind a '#', where one is spelled there
unfoldable pub signal_number_of : List ℕ → Option ℕ
signal_number_of [] = None
signal_number_of (byte ∷ number) = if byte == 35 then number_below (2 ^ 32) number else None

unfoldable pub named_target_of : List ℕ → Option SignalKey
named_target_of word = do
  name ← text_read word
  Some (ByName name)

unfoldable pub target_from : Option ℕ → List ℕ → Option SignalKey
target_from (Some number) word = Some (ByIndex number)
target_from None word = named_target_of word

unfoldable pub target_of : List ℕ → Option SignalKey
target_of word = target_from (signal_number_of word) word

unfoldable pub invoke_of : List ℕ → List ℕ → List ℕ → List ℕ → List ℕ → List ℕ → Option Line
invoke_of id object version state seed input = do
  version ← number_below (2 ^ 32) version
  state ← mode_of state
  seed ← number_below (2 ^ 64) seed
  id ← text_read id
  object ← text_read object
  input ← text_read input
  Some (Invoke id object version state seed input)

unfoldable pub result_line_of : List ℕ → List ℕ → List ℕ → Option Line
result_line_of id completion value = do
  completion ← number_below (2 ^ 32) completion
  id ← text_read id
  value ← line_value_of value
  Some (ResultLine id completion value)

unfoldable pub signal_of : List ℕ → List ℕ → List ℕ → Option Line
signal_of id target value = do
  id ← text_read id
  target ← target_of target
  value ← line_value_of value
  Some (Signal id target value)

unfoldable pub cancel_of : List ℕ → Option Line
cancel_of id = do
  id ← text_read id
  Some (Cancel id)

unfoldable pub tick_of : List ℕ → Option Line
tick_of now = do
  now ← number_below (2 ^ 64) now
  Some (Tick now)

unfoldable pub begin_of : List ℕ → List ℕ → List ℕ → Option Line
begin_of id handler now = do
  handler ← handler_of handler
  now ← number_below (2 ^ 64) now
  id ← text_read id
  Some (Begin id handler now)

unfoldable pub feed_of : List ℕ → List ℕ → List ℕ → Option Line
feed_of id attempt count = do
  attempt ← number_below (2 ^ 32) attempt
  count ← number_below (2 ^ 32) count
  id ← text_read id
  Some (Feed id attempt count)

unfoldable pub close_of : List ℕ → List ℕ → Option Line
close_of id attempt = do
  attempt ← number_below (2 ^ 32) attempt
  id ← text_read id
  Some (Close id attempt)

-- which attempt, and how many of its turns
unfoldable pub turns_of : List ℕ → List ℕ → Option (ℕ × ℕ)
turns_of attempt count = do
  attempt ← number_below (2 ^ 32) attempt
  count ← number_below (2 ^ 32) count
  if count == 0 then None else Some (attempt, count)

unfoldable pub turn_line : List ℕ → List ℕ → List ℕ → Option Line
turn_line id attempt count = do
  turns ← turns_of attempt count
  id ← text_read id
  Some (Turn id turns.0 turns.1 None)

unfoldable pub ending_turn_of : List ℕ → List ℕ → List ℕ → List ℕ → Option Line
ending_turn_of id attempt count outcome = do
  turns ← turns_of attempt count
  id ← text_read id
  outcome ← outcome_of outcome
  Some (Turn id turns.0 turns.1 (Some outcome))

unfoldable pub move_of : List ℕ → List ℕ → List ℕ → Option Line
move_of id attempt count = do
  attempt ← number_below (2 ^ 32) attempt
  count ← number_below (2 ^ 32) count
  id ← text_read id
  Some (Move id attempt count)

unfoldable pub stop_of : List ℕ → List ℕ → Option Line
stop_of id attempt = do
  attempt ← number_below (2 ^ 32) attempt
  id ← text_read id
  Some (Stop id attempt)

unfoldable pub show_of : List ℕ → Option Line
show_of id = do
  id ← text_read id
  Some (Show id)

unfoldable pub state_word : List ℕ → Option Line
state_word object = do
  object ← text_read object
  Some (State object)

-- what is read from just so many words
unfoldable pub of_none : Line → List (List ℕ) → Option Line
of_none line [] = Some line
of_none line words = None

unfoldable pub of_one : (List ℕ → Option Line) → List (List ℕ) → Option Line
of_one read (a ∷ []) = read a
of_one read words = None

unfoldable pub of_two : (List ℕ → List ℕ → Option Line) → List (List ℕ) → Option Line
of_two read (a ∷ b ∷ []) = read a b
of_two read words = None

unfoldable pub of_three : (List ℕ → List ℕ → List ℕ → Option Line) → List (List ℕ) → Option Line
of_three read (a ∷ b ∷ c ∷ []) = read a b c
of_three read words = None

unfoldable pub of_six : (List ℕ → List ℕ → List ℕ → List ℕ → List ℕ → List ℕ → Option Line) → List (List ℕ) → Option Line
of_six read (a ∷ b ∷ c ∷ d ∷ e ∷ f ∷ []) = read a b c d e f
of_six read words = None

-- a turn, without an outcome or with one
unfoldable pub of_turn : List (List ℕ) → Option Line
of_turn (a ∷ b ∷ c ∷ []) = turn_line a b c
of_turn (a ∷ b ∷ c ∷ d ∷ []) = ending_turn_of a b c d
of_turn words = None

unfoldable pub command_of : List ℕ → Option Command
command_of word =
    if bytes_eq word (codes "invoke") then Some InvokeCommand else
    (if bytes_eq word (codes "result") then Some ResultCommand else
    (if bytes_eq word (codes "signal") then Some SignalCommand else
    (if bytes_eq word (codes "cancel") then Some CancelCommand else
    (if bytes_eq word (codes "tick") then Some TickCommand else
    (if bytes_eq word (codes "begin") then Some BeginCommand else
    (if bytes_eq word (codes "feed") then Some FeedCommand else
    (if bytes_eq word (codes "close") then Some CloseCommand else
    (if bytes_eq word (codes "turn") then Some TurnCommand else
    (if bytes_eq word (codes "move") then Some MoveCommand else
    (if bytes_eq word (codes "stop") then Some StopCommand else
    (if bytes_eq word (codes "due") then Some DueCommand else
    (if bytes_eq word (codes "show") then Some ShowCommand else
    (if bytes_eq word (codes "state") then Some StateCommand else None)))))))))))))

unfoldable pub arguments_of : Command → List (List ℕ) → Option Line
arguments_of InvokeCommand = of_six invoke_of
arguments_of ResultCommand = of_three result_line_of
arguments_of SignalCommand = of_three signal_of
arguments_of CancelCommand = of_one cancel_of
arguments_of TickCommand = of_one tick_of
arguments_of BeginCommand = of_three begin_of
arguments_of FeedCommand = of_three feed_of
arguments_of CloseCommand = of_two close_of
arguments_of TurnCommand = of_turn
arguments_of MoveCommand = of_three move_of
arguments_of StopCommand = of_two stop_of
arguments_of DueCommand = of_none Due
arguments_of ShowCommand = of_one show_of
arguments_of StateCommand = of_one state_word

-- the line that the words spell
unfoldable pub line_of : List (List ℕ) → Option Line
line_of [] = None
line_of (word ∷ words) = do
  command ← command_of word
  arguments_of command words
