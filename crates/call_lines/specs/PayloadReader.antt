-- What the words of calls with a payload spell.
use Rattle.std.specs.Prelude.{ℕ, List, [], ◌∷◌, Option, Some, None}
use Rattle.journal_model.specs.declared.call.Call.{Call}
use Rattle.journal_model.specs.declared.call.Call.TheVariants as calls
use Rattle.journal_model.specs.declared.call.PayloadOptions.{PayloadOptions}
use Rattle.journal_model.specs.declared.call.Target.{Target}
use Rattle.script_lines.specs.LineReader.{◌>>=◌}
use Rattle.server_lines.specs.WordReader.{text_of, word_bytes_of}
use Rattle.call_lines.specs.TargetReader.{target_of}
use Rattle.call_lines.specs.WordReader.{name_of, optional_of, time_of, value_of}
use Rattle.call_lines.specs.declared.command.PayloadWord.{PayloadWord}
use Rattle.call_lines.specs.declared.command.PayloadWord.TheVariants as kinds

unfoldable pub get_of : PayloadOptions → List (List ℕ) → Option Call
get_of options [] = None
get_of options (key ∷ name) = do
  key ← text_of key
  name ← name_of name
  Some (calls.StateGet key name options)

unfoldable pub set_of : PayloadOptions → List (List ℕ) → Option Call
set_of options (key ∷ value ∷ name) = do
  key ← text_of key
  value ← word_bytes_of value
  name ← name_of name
  Some (calls.StateSet key value name options)
set_of options words = None

-- whom a call or a send is for, its payload, and its name
unfoldable pub called_of : List (List ℕ) → Option (Target × List ℕ × Option (List ℕ))
called_of (service ∷ handler ∷ key ∷ idempotency_key ∷ scope ∷ limit_key ∷ input ∷ name ∷ headers) = do
  input ← word_bytes_of input
  name ← optional_of name
  target ← target_of service handler key idempotency_key scope limit_key headers
  Some (target, input, name)
called_of words = None

unfoldable pub call_of : PayloadOptions → List (List ℕ) → Option Call
call_of options words = do
  called ← called_of words
  Some (calls.Call called.0 called.1 called.2 options)

unfoldable pub send_of : PayloadOptions → List (List ℕ) → Option Call
send_of options [] = None
send_of options (time ∷ words) = do
  time ← time_of time
  called ← called_of words
  Some (calls.Send called.0 called.1 time called.2 options)

unfoldable pub complete_awakeable_of : PayloadOptions → List (List ℕ) → Option Call
complete_awakeable_of options [] = None
complete_awakeable_of options (id ∷ value) = do
  id ← text_of id
  value ← value_of value
  Some (calls.CompleteAwakeable id value options)

unfoldable pub complete_promise_of : PayloadOptions → List (List ℕ) → Option Call
complete_promise_of options [] = None
complete_promise_of options (key ∷ value) = do
  key ← text_of key
  value ← value_of value
  Some (calls.CompletePromise key value options)

unfoldable pub output_call_of : PayloadOptions → List (List ℕ) → Option Call
output_call_of options words = do
  value ← value_of words
  Some (calls.Output value options)

unfoldable pub payload_call_of : PayloadWord → PayloadOptions → List (List ℕ) → Option Call
payload_call_of kinds.Get = get_of
payload_call_of kinds.Set = set_of
payload_call_of kinds.Call = call_of
payload_call_of kinds.Send = send_of
payload_call_of kinds.CompleteAwakeable = complete_awakeable_of
payload_call_of kinds.CompletePromise = complete_promise_of
payload_call_of kinds.Output = output_call_of
