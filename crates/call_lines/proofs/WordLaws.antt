-- Parts of calls are read back from their words.
use Rattle.std.proofs.Common.{◌≡◌, ◌≢◌, ℕ, ◌^◌, ◌/◌, ◌<◌, ◌≤◌, Bool, true, false, List, [], ◌∷◌, ◌++◌, Option, Some, None, refl, sym, ap, subst, arith}
use Rattle.std.specs.Prelude.{codes, decimal, bytes_eq}
use Rattle.std.specs.List.{AllByRecursion}
use Rattle.std.specs.Str.Parse.{AllDigits}
use Rattle.std.proofs.lemmas.Fmt.{decimal_is_IsNumeral}
use Rattle.std.proofs.lemmas.Slice.Eq.{bytes_eq-Decides}
use Rattle.std.proofs.lemmas.Str.Parse.{digit_from_value}
use Rattle.journal_model.specs.declared.value.NonEmptyValue.{NonEmptyValue}
use Rattle.journal_model.specs.declared.value.NonEmptyValue.TheVariants.{Success, Failure}
use Rattle.journal_model.specs.declared.value.TerminalFailure.{TerminalFailure}
use Rattle.script_lines.specs.LineReader.{at_colon, number_below, then_read}
use Rattle.script_lines.proofs.ValueLaws.{colon_again}
use Rattle.script_lines.proofs.WordLaws.{not_read, number_16, number_32, number_64}
use Rattle.server_lines.specs.Word.{IsText, escaped}
use Rattle.server_lines.proofs.Escapes.{unescaped_again}
use Rattle.server_lines.proofs.WordLaws.{digits-no_colon, tail_again, text_again}
use Rattle.call_lines.specs.Word.{IsFailure, IsGiven, IsMoment, IsOptional, IsPair, IsTime, moment_word, name_words, optional_word, pair_words, time_word, told_text, value_words}
use Rattle.call_lines.specs.WordReader.{failure_of, moment_of, name_of, optional_of, pair_read, pairs_of, success_of, time_of, told_of, value_in, value_of}

-- ---- digits, and what begins with none

pub decimal-digits : (number : ℕ) → number < 2 ^ 64 → AllDigits 10 (decimal number)
decimal-digits number below = (decimal_is_IsNumeral number below).0.1

head_digit : (digits rest : List ℕ) (byte : ℕ) → AllDigits 10 digits → digits ≡ byte ∷ rest → byte ≤ 57
head_digit digits rest byte all is = let found = subst (λ (bytes : List ℕ). AllDigits 10 bytes) is all in let range = digit_from_value byte found.0 in let high = range.1 in omega arith

pub not_decimal : (number byte : ℕ) (rest : List ℕ) → number < 2 ^ 64 → 58 ≤ byte → decimal number ≢ byte ∷ rest
not_decimal number byte rest below letter is = let digit = head_digit (decimal number) rest byte (decimal-digits number below) is in omega arith

-- a number is not a word of letters
pub no_word : (number byte : ℕ) (rest : List ℕ) → number < 2 ^ 64 → 58 ≤ byte → bytes_eq (decimal number) (byte ∷ rest) ≡ false
no_word number byte rest below letter = not_true (bytes_eq (decimal number) (byte ∷ rest)) (λ e. not_decimal number byte rest below letter ((bytes_eq-Decides (decimal number) (byte ∷ rest)).0 e))
  where
    not_true : (b : Bool) → (b ≡ true → ⊥) → b ≡ false
    not_true true never = absurd (never refl)
    not_true false never = refl

-- nor is a word of letters a number
pub no_number : (byte : ℕ) (rest : List ℕ) → 58 ≤ byte → number_below (2 ^ 32) (byte ∷ rest) ≡ None
no_number byte rest letter = not_read number_32 (byte ∷ rest) (λ number below is. not_decimal number byte rest (omega arith) letter (sym is))

-- ---- texts

pub optional_again : (text : Option (List ℕ)) → IsOptional text → optional_of (optional_word text) ≡ Some text
unfolding optional_of then_read
optional_again None h = refl
optional_again (Some text) h =
    let parts : at_colon (codes "t:" ++ escaped text) ≡ Some (codes "t", escaped text) = colon_again (codes "t") (escaped text) (refl, tt) in
    rw (parts, tail_again text h) refl

pub name_again : (name : Option (List ℕ)) → IsOptional name → name_of (name_words name) ≡ Some name
unfolding name_of then_read
name_again None h = refl
name_again (Some name) h = rw (text_again name h) refl

-- ---- moments

pub moment_again : (moment : ℕ) → IsMoment moment → moment_of (moment_word moment) ≡ Some moment
unfolding moment_of then_read
moment_again moment h = rw (number_64.again (moment / 1_000_000) h.0) (ap Some (sym h.1))

pub time_again : (time : Option ℕ) → IsTime time → time_of (time_word time) ≡ Some time
unfolding time_of then_read
time_again None h = refl
time_again (Some moment) h = rw (no_word (moment / 1_000_000) 110 (codes "ow") h.0 (omega arith), moment_again moment h) refl

-- ---- failures and values

pub pairs_again : (pairs : List (List ℕ × List ℕ)) → AllByRecursion IsPair pairs → pairs_of (pair_words pairs) ≡ Some pairs
unfolding pairs_of pair_read then_read
pairs_again [] h = refl
pairs_again (pair ∷ pairs) h = rw (text_again pair.0 h.0.0, text_again pair.1 h.0.1, pairs_again pairs h.1) refl

pub told_again : (code : ℕ) (message : List ℕ) → code < 2 ^ 16 → IsText message → told_of (told_text code message) ≡ Some (code, message)
unfolding told_of then_read
told_again code message below text =
    let parts : at_colon (told_text code message) ≡ Some (decimal code, escaped message) = colon_again (decimal code) (escaped message) (digits-no_colon (decimal code) (decimal-digits code (omega arith))) in
    rw (parts, number_16.again code below, tail_again message text) refl

pub failure_again : (failure : TerminalFailure) → IsFailure failure → failure_of (told_text failure.code failure.message) (pair_words failure.metadata) ≡ Some failure
unfolding failure_of then_read
failure_again failure h = rw (told_again failure.code failure.message h.code h.message, pairs_again failure.metadata h.metadata) refl

pub value_again : (value : NonEmptyValue) → IsGiven value → value_of (value_words value) ≡ Some value
unfolding value_of value_in success_of then_read
value_again (Success bytes) h =
    let parts : at_colon (codes "v:" ++ escaped bytes) ≡ Some (codes "v", escaped bytes) = colon_again (codes "v") (escaped bytes) (refl, tt) in
    rw (parts, unescaped_again bytes h) refl
value_again (Failure failure) h =
    let text = told_text failure.code failure.message in
    let parts : at_colon (codes "f:" ++ text) ≡ Some (codes "f", text) = colon_again (codes "f") text (refl, tt) in
    rw (parts, failure_again failure h) refl
