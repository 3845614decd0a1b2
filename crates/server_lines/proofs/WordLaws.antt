-- A word is read back from what is printed.
use Rattle.std.proofs.Common.{◌≡◌, ℕ, eqb, List, [], ◌∷◌, ◌++◌, Some, refl, sym, ap, arith, false}
use Rattle.std.specs.Prelude.{codes, decimal}
use Rattle.std.proofs.lemmas.Str.{is_utf8-from_IsUtf8}
use Rattle.std.specs.List.{AllByRecursion}
use Rattle.std.specs.Str.Parse.{AllDigits}
use Rattle.std.proofs.lemmas.Bool.{ne_eqb}
use Rattle.std.proofs.lemmas.Str.Parse.{digit_from_value}
use Rattle.std.proofs.lemmas.Fmt.{decimal_is_IsNumeral}
use Rattle.journal_model.specs.declared.notification.Failure.{Failure as FailureOf}
use Rattle.journal_model.specs.declared.notification.NotificationResult.{NotificationResult}
use Rattle.journal_model.specs.declared.notification.NotificationResult.TheVariants.{Void, Value, Failure, InvocationId, StateKeys}
use Rattle.script_lines.specs.LineReader.{then_read, at_colon}
use Rattle.script_lines.proofs.WordLaws.{number_32}
use Rattle.script_lines.proofs.ValueLaws.{colon_again}
use Rattle.server_lines.specs.Word.{IsText, IsValue, escaped, text_word, value_word}
use Rattle.server_lines.specs.WordReader.{failure_of, tail_of, text_in, text_of, value_of_kind, word_value_of}
use Rattle.server_lines.proofs.Escapes.{bytes_again, unescaped_again}

pub text_again : (text : List ℕ) → IsText text → text_of (text_word text) ≡ Some text
unfolding text_of then_read text_in
text_again text h = rw (bytes_again text h.bytes, is_utf8-from_IsUtf8 text h.utf8) refl

pub tail_again : (text : List ℕ) → IsText text → tail_of (escaped text) ≡ Some text
unfolding tail_of then_read text_in
tail_again text h = rw (unescaped_again text h.bytes, is_utf8-from_IsUtf8 text h.utf8) refl

pub digits-no_colon : (digits : List ℕ) → AllDigits 10 digits → AllByRecursion (λ byte. eqb byte 58 ≡ false) digits
digits-no_colon [] h = tt
digits-no_colon (digit ∷ digits) h =
    let range = digit_from_value digit h.0 in
    (ne_eqb digit 58 (λ e. let high = range.1 in omega arith), digits-no_colon digits h.1)

failure_again : (failure : FailureOf) → IsValue (Failure failure) → failure_of (decimal failure.code ++ 58 ∷ escaped failure.message) ≡ Some (Failure failure)
unfolding failure_of then_read
failure_again failure h =
    let parts : at_colon (decimal failure.code ++ 58 ∷ escaped failure.message) ≡ Some (decimal failure.code, escaped failure.message) =
    let below = h.0 in colon_again (decimal failure.code) (escaped failure.message) (digits-no_colon (decimal failure.code) (decimal_is_IsNumeral failure.code (omega arith)).0.1) in
    rw (parts, number_32.again failure.code h.0, tail_again failure.message h.1) (ap (λ (pairs : List (List ℕ × List ℕ)). Some (Failure (record { code = failure.code; message = failure.message; metadata = pairs }))) (sym h.2))

pub value_again : (value : NotificationResult) → IsValue value → word_value_of (value_word value) ≡ Some value
unfolding word_value_of value_of_kind then_read
value_again Void h = refl
value_again (Value bytes) h =
    let parts : at_colon (codes "v:" ++ escaped bytes) ≡ Some (codes "v", escaped bytes) = colon_again (codes "v") (escaped bytes) (refl, tt) in
    rw (parts, unescaped_again bytes h) refl
value_again (Failure failure) h =
    let text = decimal failure.code ++ 58 ∷ escaped failure.message in
    let parts : at_colon (codes "f:" ++ text) ≡ Some (codes "f", text) = colon_again (codes "f") text (refl, tt) in
    rw parts (failure_again failure h)
value_again (InvocationId id) h =
    let parts : at_colon (codes "id:" ++ escaped id) ≡ Some (codes "id", escaped id) = colon_again (codes "id") (escaped id) (refl, (refl, tt)) in
    rw (parts, tail_again id h) refl
value_again (StateKeys keys) h = absurd h
