-- A request is read back from its printed line.
use Rattle.std.proofs.Common.{◌≡◌, ℕ, eqb, List, [], ◌∷◌, map, Some, refl, ap, ◌∙◌, arith}
use Rattle.std.specs.List.{AllByRecursion, slice_split}
use Rattle.journal_model.specs.declared.call.Header.{Header}
use Rattle.journal_model.specs.declared.notification.SignalKey.{SignalKey}
use Rattle.journal_model.specs.declared.notification.SignalKey.TheVariants.{ByIndex, ByName}
use Rattle.script_lines.specs.LineReader.{then_read}
use Rattle.script_lines.proofs.WordLaws.{mode_reading, number_32, number_64}
use Rattle.server_lines.specs.Word.{IsKey, IsText, key_word, text_word}
use Rattle.server_lines.specs.WordReader.{key_of, name_of, number_key_of}
use Rattle.server_lines.specs.Request.{IsHeader, IsRequest, ReadsBack, header_words, request_spelling, words_of}
use Rattle.server_lines.specs.RequestReader.{answer_of, arguments_of, asking_of, begin_of, bringing_of, cancel_of, close_of, due_after_of, due_one_of, forget_of, ids_of, request_command_of, error_of, header_read, headers_of, input_of, invoke_of, list_of, of_due, of_invoke, of_list, of_none, of_one, of_three, of_two, output_request, request_spelled, requests_of, result_request_of, show_of, signal_of, state_of, stop_request_of, tick_of}
use Rattle.server_lines.specs.declared.request.Request.{Request}
use Rattle.server_lines.specs.declared.request.Request.TheVariants.{Invoke, Result, Signal, Cancel, Tick, Begin, Input, Output, Close, Stop, Forget, Due, DueOne, DueAfter, Next, Show, Answer, State, Error, List as ListRequest, Requests}
use Rattle.server_lines.proofs.Escapes.{bytes_again, digits_again, text_word-no_sign}
use Rattle.server_lines.proofs.WordLaws.{text_again, value_again}
use Rattle.server_lines.proofs.Spaces.{split_again, words-no_space}

-- a name's word begins with no '#'
named : (name word : List ℕ) → word ≡ text_word name → IsText name → key_of word ≡ Some (ByName name)
unfolding key_of name_of then_read
named name [] e h = rw (e, text_again name h) refl
named name (byte ∷ bytes) e h = rw (text_word-no_sign name byte bytes e, e, text_again name h) refl

key_again : (key : SignalKey) → IsKey key → key_of (key_word key) ≡ Some key
unfolding key_of number_key_of then_read
key_again (ByIndex number) h = rw (number_32.again number h) refl
key_again (ByName name) h = named name (text_word name) refl h

pub headers_again : (headers : List Header) → AllByRecursion IsHeader headers → headers_of (header_words headers) ≡ Some headers
unfolding headers_of header_read then_read
headers_again [] h = refl
headers_again (header ∷ headers) h = rw (text_again header.key h.0.0, text_again header.value h.0.1, headers_again headers h.1) refl

ids_again : (ids : List (List ℕ)) → AllByRecursion IsText ids → ids_of (map text_word ids) ≡ Some ids
unfolding ids_of then_read
ids_again [] h = refl
ids_again (id ∷ ids) h = rw (text_again id h.0, ids_again ids h.1) refl

words_again : (request : Request) → IsRequest request → request_spelled (words_of request) ≡ Some request
unfolding request_spelled then_read request_command_of bringing_of asking_of arguments_of of_none of_one of_two of_three of_invoke of_due due_one_of due_after_of of_list list_of requests_of invoke_of result_request_of signal_of cancel_of tick_of begin_of input_of output_request close_of stop_request_of forget_of show_of answer_of state_of error_of
words_again (Invoke new) h =
    rw (number_32.again new.version h.version, mode_reading.again new.state tt, number_64.again new.seed h.seed, text_again new.id h.id, text_again new.object h.object, bytes_again new.input h.input, headers_again new.headers h.headers) refl
words_again (Result id completion value) h = rw (number_32.again completion h.1, text_again id h.0, value_again value h.2) refl
words_again (Signal id key value) h = rw (text_again id h.0, key_again key h.1, value_again value h.2) refl
words_again (Cancel id) h = rw (text_again id h) refl
words_again (Tick now) h = rw (number_64.again now h) refl
words_again (Begin id now) h = rw (number_64.again now h.1, text_again id h.0) refl
words_again (Input id attempt most) h = rw (number_32.again attempt h.1, number_32.again most h.2, text_again id h.0) refl
words_again (Output id attempt bytes) h = rw (number_32.again attempt h.1, text_again id h.0, digits_again bytes h.2) refl
words_again (Close id attempt) h = rw (number_32.again attempt h.1, text_again id h.0) refl
words_again (Stop id attempt) h = rw (number_32.again attempt h.1, text_again id h.0) refl
words_again (Forget []) h = absurd (omega arith)
words_again (Forget (id ∷ ids)) h = rw (ids_again (id ∷ ids) h.1) refl
words_again Due h = refl
words_again (DueOne id) h = rw (text_again id h) refl
words_again (DueAfter after most) h = rw (number_32.again most h.1, text_again after h.0) refl
words_again Next h = refl
words_again (Show id) h = rw (text_again id h) refl
words_again (Answer id) h = rw (text_again id h) refl
words_again (State object) h = rw (text_again object h) refl
words_again (Error id) h = rw (text_again id h) refl
words_again (ListRequest after most) h = rw (number_32.again most h.1, text_again after h.0) refl
words_again (Requests id) h = rw (text_again id h) refl

pub split : (request : Request) → IsRequest request → slice_split (λ byte. eqb byte 32) (request_spelling request) ≡ words_of request
split (Invoke new) h = split_again _ _ (words-no_space (Invoke new) h)
split (Result id completion value) h = split_again _ _ (words-no_space (Result id completion value) h)
split (Signal id key value) h = split_again _ _ (words-no_space (Signal id key value) h)
split (Cancel id) h = split_again _ _ (words-no_space (Cancel id) h)
split (Tick now) h = split_again _ _ (words-no_space (Tick now) h)
split (Begin id now) h = split_again _ _ (words-no_space (Begin id now) h)
split (Input id attempt most) h = split_again _ _ (words-no_space (Input id attempt most) h)
split (Output id attempt bytes) h = split_again _ _ (words-no_space (Output id attempt bytes) h)
split (Close id attempt) h = split_again _ _ (words-no_space (Close id attempt) h)
split (Stop id attempt) h = split_again _ _ (words-no_space (Stop id attempt) h)
split (Forget ids) h = split_again _ _ (words-no_space (Forget ids) h)
split Due h = split_again _ _ (words-no_space Due h)
split (DueOne id) h = split_again _ _ (words-no_space (DueOne id) h)
split (DueAfter after most) h = split_again _ _ (words-no_space (DueAfter after most) h)
split Next h = split_again _ _ (words-no_space Next h)
split (Show id) h = split_again _ _ (words-no_space (Show id) h)
split (Answer id) h = split_again _ _ (words-no_space (Answer id) h)
split (State object) h = split_again _ _ (words-no_space (State object) h)
split (Error id) h = split_again _ _ (words-no_space (Error id) h)
split (ListRequest after most) h = split_again _ _ (words-no_space (ListRequest after most) h)
split (Requests id) h = split_again _ _ (words-no_space (Requests id) h)

pub reads_back : ReadsBack
reads_back request h = ap request_spelled (split request h) ∙ words_again request h
