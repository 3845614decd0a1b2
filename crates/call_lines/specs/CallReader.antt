-- What the words of a call spell.
use Rattle.std.specs.Prelude.{ℕ, ◌^◌, true, false, List, [], ◌∷◌, Option, Some, None, codes, if◌then◌else◌, bytes_eq}
use Rattle.journal_model.specs.declared.call.Call.TheVariants as calls
use Rattle.journal_model.specs.declared.call.PayloadOptions.{PayloadOptions}
use Rattle.script_lines.specs.LineReader.{◌>>=◌, number_below}
use Rattle.server_lines.specs.WordReader.{text_of}
use Rattle.call_lines.specs.CommandReader.{payload_word_of, plain_word_of}
use Rattle.call_lines.specs.PayloadReader.{payload_call_of}
use Rattle.call_lines.specs.TargetReader.{attached_of}
use Rattle.call_lines.specs.TreeReader.{tree_read}
use Rattle.call_lines.specs.WordReader.{moment_of, name_of, name_or_empty_of, value_of}
use Rattle.call_lines.specs.declared.call.Said.{Said}
use Rattle.call_lines.specs.declared.call.Said.TheVariants.{Call, Wait}
use Rattle.call_lines.specs.declared.command.PayloadWord.{PayloadWord}
use Rattle.call_lines.specs.declared.command.PlainWord.{PlainWord}
use Rattle.call_lines.specs.declared.command.PlainWord.TheVariants as plain

unfoldable pub one_text_of : List (List ℕ) → Option (List ℕ)
one_text_of (text ∷ []) = text_of text
one_text_of words = None

unfoldable pub handle_of : List (List ℕ) → Option ℕ
handle_of (handle ∷ []) = number_below (2 ^ 32) handle
handle_of words = None

unfoldable pub keys_of : List (List ℕ) → Option Said
keys_of words = do
  name ← name_of words
  Some (Call (calls.StateGetKeys name))

unfoldable pub clear_of : List (List ℕ) → Option Said
clear_of [] = None
clear_of (key ∷ name) = do
  key ← text_of key
  name ← name_of name
  Some (Call (calls.StateClear key name))

unfoldable pub clear_all_of : List (List ℕ) → Option Said
clear_all_of words = do
  name ← name_of words
  Some (Call (calls.StateClearAll name))

unfoldable pub sleep_of : List (List ℕ) → Option Said
sleep_of [] = None
sleep_of (until ∷ name) = do
  until ← moment_of until
  name ← name_or_empty_of name
  Some (Call (calls.Sleep name until None))

unfoldable pub awakeable_of : List (List ℕ) → Option Said
awakeable_of [] = Some (Call calls.Awakeable)
awakeable_of words = None

unfoldable pub signal_of : List (List ℕ) → Option Said
signal_of words = do
  name ← one_text_of words
  Some (Call (calls.Signal name))

unfoldable pub complete_signal_of : List (List ℕ) → Option Said
complete_signal_of (target ∷ name ∷ value) = do
  target ← text_of target
  name ← text_of name
  value ← value_of value
  Some (Call (calls.CompleteSignal target name value))
complete_signal_of words = None

unfoldable pub promise_of : List (List ℕ) → Option Said
promise_of words = do
  key ← one_text_of words
  Some (Call (calls.GetPromise key))

unfoldable pub peek_promise_of : List (List ℕ) → Option Said
peek_promise_of words = do
  key ← one_text_of words
  Some (Call (calls.PeekPromise key))

unfoldable pub run_of : List (List ℕ) → Option Said
run_of words = do
  name ← name_or_empty_of words
  Some (Call (calls.Run name))

unfoldable pub cancel_of : List (List ℕ) → Option Said
cancel_of words = do
  target ← one_text_of words
  Some (Call (calls.Cancel target))

unfoldable pub attach_of : List (List ℕ) → Option Said
attach_of words = do
  target ← attached_of words
  Some (Call (calls.Attach target))

unfoldable pub output_of_of : List (List ℕ) → Option Said
output_of_of words = do
  target ← attached_of words
  Some (Call (calls.GetOutput target))

unfoldable pub completed_of : List (List ℕ) → Option Said
completed_of words = do
  handle ← handle_of words
  Some (Call (calls.IsCompleted handle))

unfoldable pub take_of : List (List ℕ) → Option Said
take_of words = do
  handle ← handle_of words
  Some (Call (calls.Take handle))

unfoldable pub await_of : List (List ℕ) → Option Said
await_of words = do
  future ← tree_read words
  Some (Call (calls.Await future))

unfoldable pub wait_of : List (List ℕ) → Option Said
wait_of words = do
  future ← tree_read words
  Some (Wait future)

unfoldable pub end_of : List (List ℕ) → Option Said
end_of [] = Some (Call calls.End)
end_of words = None

unfoldable pub plain_call_of : PlainWord → List (List ℕ) → Option Said
plain_call_of plain.Keys = keys_of
plain_call_of plain.Clear = clear_of
plain_call_of plain.ClearAll = clear_all_of
plain_call_of plain.Sleep = sleep_of
plain_call_of plain.Awakeable = awakeable_of
plain_call_of plain.Signal = signal_of
plain_call_of plain.CompleteSignal = complete_signal_of
plain_call_of plain.Promise = promise_of
plain_call_of plain.PeekPromise = peek_promise_of
plain_call_of plain.Run = run_of
plain_call_of plain.Cancel = cancel_of
plain_call_of plain.Attach = attach_of
plain_call_of plain.OutputOf = output_of_of
plain_call_of plain.Completed = completed_of
plain_call_of plain.Take = take_of
plain_call_of plain.Await = await_of
plain_call_of plain.Wait = wait_of
plain_call_of plain.End = end_of

-- ---- whether a payload's bytes may differ

abbrev pub stable : PayloadOptions
stable = record { unstable_serialization = false }

abbrev pub unstable : PayloadOptions
unstable = record { unstable_serialization = true }

unfoldable pub unstable_of : List (List ℕ) → Option Said
unstable_of [] = None
unstable_of (word ∷ words) = do
  word ← payload_word_of word
  call ← payload_call_of word unstable words
  Some (Call call)

unfoldable pub payload_or : Option PayloadWord → List ℕ → List (List ℕ) → Option Said
payload_or (Some found) word words = do
  call ← payload_call_of found stable words
  Some (Call call)
payload_or None word words = do
  found ← plain_word_of word
  plain_call_of found words

unfoldable pub stable_of : List ℕ → List (List ℕ) → Option Said
stable_of word words = payload_or (payload_word_of word) word words

unfoldable pub said_of : List (List ℕ) → Option Said
said_of [] = None
said_of (word ∷ words) = if bytes_eq word (codes "unstable") then unstable_of words else stable_of word words
