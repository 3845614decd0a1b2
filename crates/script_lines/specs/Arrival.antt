-- What a line prints of an arrival.
use Rattle.std.specs.Prelude.{ℕ, List, [], ◌∷◌, ◌++◌, codes, decimal}
use Rattle.std.specs.List.{flat_map}
use Rattle.script_lines.specs.declared.arrival.ShownId.{ShownId}
use Rattle.script_lines.specs.declared.arrival.ShownId.TheVariants.{Completion, Signal, Name}
use Rattle.script_lines.specs.declared.arrival.ShownResult.{ShownResult}
use Rattle.script_lines.specs.declared.arrival.ShownResult.TheVariants.{Void, Value, Failure, InvocationId, StateKeys}
use Rattle.script_lines.specs.declared.arrival.ShownArrival.{ShownArrival}
use Rattle.script_lines.specs.Text.{hex_text}

-- a request's completion, a signal's number, or a signal's name
abbrev pub completion_word : ℕ → List ℕ
completion_word number = codes "c" ++ decimal number

abbrev pub signal_word : ℕ → List ℕ
signal_word number = codes "s" ++ decimal number

abbrev pub name_word : List ℕ → List ℕ
name_word name = codes "n:" ++ hex_text name

abbrev pub id_text : ShownId → List ℕ
id_text (Completion number) = completion_word number
id_text (Signal number) = signal_word number
id_text (Name name) = name_word name.now

-- the digits of a key behind a comma
abbrev pub further_key : List ℕ → List ℕ
further_key key = codes "," ++ hex_text key

abbrev pub further_text : List (List ℕ) → List ℕ
further_text keys = flat_map further_key keys

-- the digits of each key, with commas between them, and a dash for no key
abbrev pub keys_text : List (List ℕ) → List ℕ
keys_text [] = codes "-"
keys_text (key ∷ keys) = hex_text key ++ further_text keys

abbrev pub value_words : List ℕ → List ℕ
value_words bytes = codes "value " ++ hex_text bytes

abbrev pub failure_words : ℕ → List ℕ → List ℕ
failure_words code message = codes "failure " ++ decimal code ++ codes " " ++ hex_text message

abbrev pub id_words : List ℕ → List ℕ
id_words id = codes "id " ++ hex_text id

abbrev pub keys_words : List (List ℕ) → List ℕ
keys_words keys = codes "keys " ++ keys_text keys

abbrev pub result_text : ShownResult → List ℕ
result_text Void = codes "void"
result_text (Value bytes) = value_words bytes.now
result_text (Failure code message) = failure_words code message.now
result_text (InvocationId id) = id_words id.now
result_text (StateKeys keys) = keys_words keys.now

-- a recorded arrival: its place, what it is for, and what it brings
abbrev pub arrival_line : ℕ → List ℕ → List ℕ → List ℕ
arrival_line place id brought = decimal place ++ codes " arrival " ++ id ++ codes " " ++ brought

abbrev pub arrival_text : ShownArrival → List ℕ
arrival_text arrival = arrival_line arrival.place (id_text arrival.id) (result_text arrival.brought)
