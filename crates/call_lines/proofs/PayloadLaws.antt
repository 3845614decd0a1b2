-- A call with a payload is read back from its words.
use Rattle.std.proofs.Common.{◌≡◌, ℕ, Bool, true, false, List, ◌∷◌, Option, Some, refl, All}
use Rattle.std.specs.Prelude.{codes, bytes_eq}
use Rattle.journal_model.specs.declared.call.Call.{Call}
use Rattle.journal_model.specs.declared.call.Call.TheVariants as calls
use Rattle.journal_model.specs.declared.call.PayloadOptions.{PayloadOptions}
use Rattle.journal_model.specs.declared.call.Target.{Target}
use Rattle.journal_model.specs.declared.value.NonEmptyValue.{NonEmptyValue}
use Rattle.script_lines.specs.LineReader.{then_read}
use Rattle.server_lines.specs.Request.{header_words}
use Rattle.server_lines.specs.Word.{IsByte, IsText, text_word}
use Rattle.server_lines.proofs.Escapes.{bytes_again}
use Rattle.server_lines.proofs.WordLaws.{text_again}
use Rattle.call_lines.specs.Call.{IsTarget, by_options, target_words}
use Rattle.call_lines.specs.CallReader.{payload_or, said_of, stable_of, unstable_of}
use Rattle.call_lines.specs.CommandReader.{payload_word_of}
use Rattle.call_lines.specs.PayloadReader.{call_of, called_of, complete_awakeable_of, complete_promise_of, get_of, output_call_of, payload_call_of, send_of, set_of}
use Rattle.call_lines.specs.Word.{IsGiven, IsOptional, IsTime, name_words, optional_word, time_word, value_words}
use Rattle.call_lines.specs.declared.call.Said.TheVariants as said
use Rattle.call_lines.specs.declared.command.PayloadWord.{PayloadWord}
use Rattle.call_lines.specs.declared.command.PayloadWord.TheVariants as payloads
use Rattle.call_lines.proofs.TargetLaws.{target_again}
use Rattle.call_lines.proofs.WordLaws.{name_again, optional_again, time_again, value_again}

abbrev options_of : Bool → PayloadOptions
options_of flag = record { unstable_serialization = flag }

-- the word of a call, behind one that says whether its payload's bytes may differ
flagged : (flag : Bool) (word : List ℕ) (words : List (List ℕ)) (kind : PayloadWord) (call : Call) → bytes_eq word (codes "unstable") ≡ false → payload_word_of word ≡ Some kind
    → payload_call_of kind (options_of flag) words ≡ Some call → said_of (by_options (options_of flag) (word ∷ words)) ≡ Some (said.Call call)
unfolding said_of stable_of unstable_of payload_or then_read
flagged true word words kind call other is read = rw (is, read) refl
flagged false word words kind call other is read = rw (other, is, read) refl

module _ (options : PayloadOptions) where
  pub get_again : (key : List ℕ) (name : Option (List ℕ)) → IsText key → IsOptional name → said_of (by_options options (codes "get" ∷ text_word key ∷ name_words name)) ≡ Some (said.Call (calls.StateGet key name options))
  unfolding payload_word_of payload_call_of get_of then_read
  get_again key name k n = flagged options.unstable_serialization (codes "get") (text_word key ∷ name_words name) payloads.Get (calls.StateGet key name options) refl refl (rw (text_again key k, name_again name n) refl)

  pub set_again : (key value : List ℕ) (name : Option (List ℕ)) → IsText key → All IsByte value → IsOptional name
      → said_of (by_options options (codes "set" ∷ text_word key ∷ text_word value ∷ name_words name)) ≡ Some (said.Call (calls.StateSet key value name options))
  unfolding payload_word_of payload_call_of set_of then_read
  set_again key value name k v n =
      flagged options.unstable_serialization (codes "set") (text_word key ∷ text_word value ∷ name_words name) payloads.Set (calls.StateSet key value name options) refl refl
      (rw (text_again key k, bytes_again value v, name_again name n) refl)

  called_again : (target : Target) (input : List ℕ) (name : Option (List ℕ)) → IsTarget target → All IsByte input → IsOptional name
      → called_of (target_words target (text_word input ∷ optional_word name ∷ header_words target.headers)) ≡ Some (target, input, name)
  unfolding called_of then_read
  called_again target input name t i n = rw (target_again target t, bytes_again input i, optional_again name n) refl

  pub call_again : (target : Target) (input : List ℕ) (name : Option (List ℕ)) → IsTarget target → All IsByte input → IsOptional name
      → said_of (by_options options (codes "call" ∷ target_words target (text_word input ∷ optional_word name ∷ header_words target.headers))) ≡ Some (said.Call (calls.Call target input name options))
  unfolding payload_word_of payload_call_of call_of then_read
  call_again target input name t i n =
      flagged options.unstable_serialization (codes "call") (target_words target (text_word input ∷ optional_word name ∷ header_words target.headers)) payloads.Call (calls.Call target input name options) refl refl
      (rw (called_again target input name t i n) refl)

  pub send_again : (target : Target) (input : List ℕ) (time : Option ℕ) (name : Option (List ℕ)) → IsTarget target → All IsByte input → IsTime time → IsOptional name
      → said_of (by_options options (codes "send" ∷ time_word time ∷ target_words target (text_word input ∷ optional_word name ∷ header_words target.headers))) ≡ Some (said.Call (calls.Send target input time name options))
  unfolding payload_word_of payload_call_of send_of then_read
  send_again target input time name t i m n =
      flagged options.unstable_serialization (codes "send") (time_word time ∷ target_words target (text_word input ∷ optional_word name ∷ header_words target.headers)) payloads.Send
      (calls.Send target input time name options) refl refl
      (rw (time_again time m, called_again target input name t i n) refl)

  pub complete_awakeable-again : (id : List ℕ) (value : NonEmptyValue) → IsText id → IsGiven value
      → said_of (by_options options (codes "complete-awakeable" ∷ text_word id ∷ value_words value)) ≡ Some (said.Call (calls.CompleteAwakeable id value options))
  unfolding payload_word_of payload_call_of complete_awakeable_of then_read
  complete_awakeable-again id value i v =
      flagged options.unstable_serialization (codes "complete-awakeable") (text_word id ∷ value_words value) payloads.CompleteAwakeable (calls.CompleteAwakeable id value options) refl refl
      (rw (text_again id i, value_again value v) refl)

  pub complete_promise-again : (key : List ℕ) (value : NonEmptyValue) → IsText key → IsGiven value
      → said_of (by_options options (codes "complete-promise" ∷ text_word key ∷ value_words value)) ≡ Some (said.Call (calls.CompletePromise key value options))
  unfolding payload_word_of payload_call_of complete_promise_of then_read
  complete_promise-again key value k v =
      flagged options.unstable_serialization (codes "complete-promise") (text_word key ∷ value_words value) payloads.CompletePromise (calls.CompletePromise key value options) refl refl
      (rw (text_again key k, value_again value v) refl)

  pub output_again : (value : NonEmptyValue) → IsGiven value → said_of (by_options options (codes "output" ∷ value_words value)) ≡ Some (said.Call (calls.Output value options))
  unfolding payload_word_of payload_call_of output_call_of then_read
  output_again value v = flagged options.unstable_serialization (codes "output") (value_words value) payloads.Output (calls.Output value options) refl refl (rw (value_again value v) refl)
