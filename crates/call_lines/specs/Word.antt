-- The words by which parts of calls are printed, and which parts have some.
use Rattle.std.specs.Prelude.{◌≡◌, ℕ, ◌*◌, ◌/◌, ◌^◌, ◌<◌, List, [], ◌∷◌, ◌++◌, All, Option, Some, None, codes, decimal}
use Rattle.std.specs.List.{AllByRecursion}
use Rattle.journal_model.specs.declared.value.NonEmptyValue.{NonEmptyValue}
use Rattle.journal_model.specs.declared.value.NonEmptyValue.TheVariants.{Success, Failure}
use Rattle.journal_model.specs.declared.value.TerminalFailure.{TerminalFailure}
use Rattle.server_lines.specs.Word.{IsByte, IsText, escaped, text_word}

abbrev pub optional_word : Option (List ℕ) → List ℕ
optional_word None = codes "none"
optional_word (Some text) = codes "t:" ++ escaped text

abbrev pub name_words : Option (List ℕ) → List (List ℕ)
name_words None = []
name_words (Some name) = text_word name ∷ []

-- a moment in milliseconds; it is told in nanoseconds
abbrev pub moment_word : ℕ → List ℕ
moment_word moment = decimal (moment / 1_000_000)

abbrev pub time_word : Option ℕ → List ℕ
time_word None = codes "now"
time_word (Some moment) = moment_word moment

abbrev pub pair_words : List (List ℕ × List ℕ) → List (List ℕ)
pair_words [] = []
pair_words (pair ∷ pairs) = text_word pair.0 ∷ text_word pair.1 ∷ pair_words pairs

-- a code and a text, with a colon (58) between them
abbrev pub told_text : ℕ → List ℕ → List ℕ
told_text code message = decimal code ++ 58 ∷ escaped message

abbrev pub value_words : NonEmptyValue → List (List ℕ)
value_words (Success bytes) = (codes "v:" ++ escaped bytes) ∷ []
value_words (Failure failure) = (codes "f:" ++ told_text failure.code failure.message) ∷ pair_words failure.metadata

-- ---- which are there

abbrev pub IsOptional : Option (List ℕ) → Type 0
IsOptional None = Unit {0}
IsOptional (Some text) = IsText text

-- a moment of whole milliseconds
abbrev pub IsMoment : ℕ → Type 0
IsMoment moment = (moment / 1_000_000 < 2 ^ 64) × (moment ≡ moment / 1_000_000 * 1_000_000)

abbrev pub IsTime : Option ℕ → Type 0
IsTime None = Unit {0}
IsTime (Some moment) = IsMoment moment

abbrev pub IsPair : List ℕ × List ℕ → Type 0
IsPair pair = IsText pair.0 × IsText pair.1

pub record IsFailure (failure : TerminalFailure) : Type 0 where
  pub code : failure.code < 2 ^ 16
  pub message : IsText failure.message
  pub metadata : AllByRecursion IsPair failure.metadata

abbrev pub IsGiven : NonEmptyValue → Type 0
IsGiven (Success bytes) = All IsByte bytes
IsGiven (Failure failure) = IsFailure failure
