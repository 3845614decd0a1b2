-- What a request's line spells: a command and what it is about, with one space between two words.
use Rattle.std.specs.Prelude.{ℕ, ◌^◌, ◌-◌, ◌==◌, List, [], ◌∷◌, Option, Some, None, codes, if◌then◌else◌, bytes_eq}
use Rattle.std.specs.List.{slice_split}
use Rattle.std.specs.Option.{option_or}
use Rattle.journal_model.specs.declared.call.Header.{Header}
use Rattle.script_lines.specs.LineReader.{◌>>=◌, mode_of, number_below}
use Rattle.server_lines.specs.declared.command.Command.{Command}
use Rattle.server_lines.specs.declared.command.Command.TheVariants as command
use Rattle.server_lines.specs.declared.request.Request.{Request}
use Rattle.server_lines.specs.declared.request.Request.TheVariants.{Invoke, Result, Signal, Cancel, Tick, Begin, Input, Output, Close, Stop, Forget, Due, DueOne, DueAfter, Next, Show, Answer, State, Error, List as ListRequest, Requests}
use Rattle.server_lines.specs.WordReader.{word_bytes_of, digits_of, key_of, text_of, word_value_of}

unfoldable pub header_read : List ℕ → List ℕ → Option Header
header_read key value = do
  key ← text_of key
  value ← text_of value
  Some (record { key = key; value = value })

-- headers, each by its name and its value
unfoldable pub headers_of : List (List ℕ) → Option (List Header)
headers_of [] = Some []
headers_of (key ∷ []) = None
headers_of (key ∷ value ∷ words) = do
  header ← header_read key value
  headers ← headers_of words
  Some (header ∷ headers)

unfoldable pub invoke_of : List ℕ → List ℕ → List ℕ → List ℕ → List ℕ → List ℕ → List (List ℕ) → Option Request
invoke_of id object version state seed input headers = do
  version ← number_below (2 ^ 32) version
  state ← mode_of state
  seed ← number_below (2 ^ 64) seed
  id ← text_of id
  object ← text_of object
  input ← word_bytes_of input
  headers ← headers_of headers
  Some (Invoke (record { id = id; object = object; input = input; headers = headers; version = version; seed = seed; state = state }))

unfoldable pub result_request_of : List ℕ → List ℕ → List ℕ → Option Request
result_request_of id completion value = do
  completion ← number_below (2 ^ 32) completion
  id ← text_of id
  value ← word_value_of value
  Some (Result id completion value)

unfoldable pub signal_of : List ℕ → List ℕ → List ℕ → Option Request
signal_of id key value = do
  id ← text_of id
  key ← key_of key
  value ← word_value_of value
  Some (Signal id key value)

unfoldable pub cancel_of : List ℕ → Option Request
cancel_of id = do
  id ← text_of id
  Some (Cancel id)

unfoldable pub tick_of : List ℕ → Option Request
tick_of now = do
  now ← number_below (2 ^ 64) now
  Some (Tick now)

unfoldable pub begin_of : List ℕ → List ℕ → Option Request
begin_of id now = do
  now ← number_below (2 ^ 64) now
  id ← text_of id
  Some (Begin id now)

unfoldable pub input_of : List ℕ → List ℕ → List ℕ → Option Request
input_of id attempt most = do
  attempt ← number_below (2 ^ 32) attempt
  most ← number_below (2 ^ 32) most
  id ← text_of id
  Some (Input id attempt most)

unfoldable pub output_request : List ℕ → List ℕ → List ℕ → Option Request
output_request id attempt bytes = do
  attempt ← number_below (2 ^ 32) attempt
  id ← text_of id
  bytes ← digits_of bytes
  Some (Output id attempt bytes)

unfoldable pub close_of : List ℕ → List ℕ → Option Request
close_of id attempt = do
  attempt ← number_below (2 ^ 32) attempt
  id ← text_of id
  Some (Close id attempt)

unfoldable pub stop_request_of : List ℕ → List ℕ → Option Request
stop_request_of id attempt = do
  attempt ← number_below (2 ^ 32) attempt
  id ← text_of id
  Some (Stop id attempt)

unfoldable pub ids_of : List (List ℕ) → Option (List (List ℕ))
ids_of [] = Some []
ids_of (word ∷ words) = do
  id ← text_of word
  ids ← ids_of words
  Some (id ∷ ids)

-- one at least
unfoldable pub forget_of : List (List ℕ) → Option Request
forget_of [] = None
forget_of (word ∷ words) = do
  ids ← ids_of (word ∷ words)
  Some (Forget ids)

unfoldable pub show_of : List ℕ → Option Request
show_of id = do
  id ← text_of id
  Some (Show id)

unfoldable pub answer_of : List ℕ → Option Request
answer_of id = do
  id ← text_of id
  Some (Answer id)

unfoldable pub state_of : List ℕ → Option Request
state_of object = do
  object ← text_of object
  Some (State object)

unfoldable pub error_of : List ℕ → Option Request
error_of id = do
  id ← text_of id
  Some (Error id)

unfoldable pub requests_of : List ℕ → Option Request
requests_of id = do
  id ← text_of id
  Some (Requests id)

unfoldable pub list_of : List ℕ → List ℕ → Option Request
list_of after most = do
  most ← number_below (2 ^ 32) most
  after ← text_of after
  Some (ListRequest after most)

unfoldable pub due_one_of : List ℕ → Option Request
due_one_of id = do
  id ← text_of id
  Some (DueOne id)

unfoldable pub due_after_of : List ℕ → List ℕ → Option Request
due_after_of after most = do
  most ← number_below (2 ^ 32) most
  after ← text_of after
  Some (DueAfter after most)

-- what is read from just so many words
unfoldable pub of_none : Request → List (List ℕ) → Option Request
of_none asked [] = Some asked
of_none asked words = None

unfoldable pub of_one : (List ℕ → Option Request) → List (List ℕ) → Option Request
of_one read (a ∷ []) = read a
of_one read words = None

unfoldable pub of_two : (List ℕ → List ℕ → Option Request) → List (List ℕ) → Option Request
of_two read (a ∷ b ∷ []) = read a b
of_two read words = None

unfoldable pub of_three : (List ℕ → List ℕ → List ℕ → Option Request) → List (List ℕ) → Option Request
of_three read (a ∷ b ∷ c ∷ []) = read a b c
of_three read words = None

-- six words, and the headers
unfoldable pub of_invoke : List (List ℕ) → Option Request
of_invoke (a ∷ b ∷ c ∷ d ∷ e ∷ f ∷ headers) = invoke_of a b c d e f headers
of_invoke words = None

-- all; or whether one is; or behind an id, at most so many
unfoldable pub of_due : List (List ℕ) → Option Request
of_due [] = Some Due
of_due (a ∷ []) = due_one_of a
of_due (a ∷ b ∷ []) = due_after_of a b
of_due words = None

-- behind an id, at most so many; or from the first one on, as many as a number can say
unfoldable pub of_list : List (List ℕ) → Option Request
of_list [] = Some (ListRequest [] (2 ^ 32 - 1))
of_list (a ∷ b ∷ []) = list_of a b
of_list words = None

-- the commands that bring something or hand something out
unfoldable pub bringing_of : List ℕ → Option Command
bringing_of word =
    if bytes_eq word (codes "invoke") then Some command.Invoke else
    (if bytes_eq word (codes "result") then Some command.Result else
    (if bytes_eq word (codes "signal") then Some command.Signal else
    (if bytes_eq word (codes "cancel") then Some command.Cancel else
    (if bytes_eq word (codes "tick") then Some command.Tick else
    (if bytes_eq word (codes "begin") then Some command.Begin else
    (if bytes_eq word (codes "input") then Some command.Input else
    (if bytes_eq word (codes "output") then Some command.Output else
    (if bytes_eq word (codes "close") then Some command.Close else
    (if bytes_eq word (codes "stop") then Some command.Stop else
    (if bytes_eq word (codes "forget") then Some command.Forget else None))))))))))

-- the commands that only ask
unfoldable pub asking_of : List ℕ → Option Command
asking_of word =
    if bytes_eq word (codes "due") then Some command.Due else
    (if bytes_eq word (codes "next") then Some command.Next else
    (if bytes_eq word (codes "show") then Some command.Show else
    (if bytes_eq word (codes "answer") then Some command.Answer else
    (if bytes_eq word (codes "state") then Some command.State else
    (if bytes_eq word (codes "error") then Some command.Error else
    (if bytes_eq word (codes "list") then Some command.List else
    (if bytes_eq word (codes "requests") then Some command.Requests else None)))))))

unfoldable pub request_command_of : List ℕ → Option Command
request_command_of word = option_or (bringing_of word) (asking_of word)

unfoldable pub arguments_of : Command → List (List ℕ) → Option Request
arguments_of command.Invoke = of_invoke
arguments_of command.Result = of_three result_request_of
arguments_of command.Signal = of_three signal_of
arguments_of command.Cancel = of_one cancel_of
arguments_of command.Tick = of_one tick_of
arguments_of command.Begin = of_two begin_of
arguments_of command.Input = of_three input_of
arguments_of command.Output = of_three output_request
arguments_of command.Close = of_two close_of
arguments_of command.Stop = of_two stop_request_of
arguments_of command.Forget = forget_of
arguments_of command.Due = of_due
arguments_of command.Next = of_none Next
arguments_of command.Show = of_one show_of
arguments_of command.Answer = of_one answer_of
arguments_of command.State = of_one state_of
arguments_of command.Error = of_one error_of
arguments_of command.List = of_list
arguments_of command.Requests = of_one requests_of

-- the request that the words spell
unfoldable pub request_spelled : List (List ℕ) → Option Request
request_spelled [] = None
request_spelled (word ∷ words) = do
  command ← request_command_of word
  arguments_of command words

-- the request that a line spells, without its line feed
abbrev pub request_of : List ℕ → Option Request
request_of line = request_spelled (slice_split (λ byte. byte == 32) line)
