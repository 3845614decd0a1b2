-- The words by which the end of a body is printed.
use Rattle.std.specs.Prelude.{◌≢◌, ℕ, ◌^◌, ◌<◌, Bool, true, false, List, [], ◌∷◌, ◌++◌, All, Option, Some, None, codes, decimal}
use Rattle.server_lines.specs.Word.{IsByte, IsText, escaped}
use Rattle.call_lines.specs.Word.{IsFailure, pair_words, told_text}
use Rattle.call_lines.specs.declared.policy.SaidBounds.{SaidBounds}
use Rattle.call_lines.specs.declared.policy.SaidPolicy.{SaidPolicy}
use Rattle.call_lines.specs.declared.policy.SaidPolicy.TheVariants as policies
use Rattle.call_lines.specs.declared.outcome.SaidOutcome.{SaidOutcome}
use Rattle.call_lines.specs.declared.outcome.SaidOutcome.TheVariants as outcomes

abbrev pub given_word : Option ℕ → List ℕ
given_word None = codes "none"
given_word (Some number) = decimal number

abbrev pub pauses_word : Bool → List ℕ
pauses_word false = codes "fail"
pauses_word true = codes "pause"

abbrev pub bounds_words : SaidBounds → List (List ℕ)
bounds_words bounds = given_word bounds.attempts ∷ given_word bounds.millis ∷ pauses_word bounds.pauses ∷ []

abbrev pub policy_words : SaidPolicy → List (List ℕ)
policy_words policies.Always = codes "always" ∷ []
policy_words policies.Never = codes "never" ∷ []
policy_words (policies.FixedDelay interval bounds) = codes "fixed-delay" ∷ given_word interval ∷ bounds_words bounds
policy_words (policies.Exponential initial numerator denominator most bounds) =
    codes "exponential" ∷ decimal initial ∷ decimal numerator ∷ decimal denominator ∷ given_word most ∷ bounds_words bounds

abbrev pub outcome_words : SaidOutcome → List (List ℕ)
outcome_words (outcomes.Success bytes) = (codes "ok:" ++ escaped bytes) ∷ []
outcome_words (outcomes.Failure failure) = (codes "fail:" ++ told_text failure.code failure.message) ∷ pair_words failure.metadata
outcome_words (outcomes.Retry code message millis policy) = (codes "retry:" ++ told_text code message) ∷ decimal millis ∷ policy_words policy

-- ---- which are there

abbrev pub IsGivenBelow : ℕ → Option ℕ → Type 0
IsGivenBelow limit None = Unit {0}
IsGivenBelow limit (Some number) = number < limit

pub record IsBounds (bounds : SaidBounds) : Type 0 where
  pub attempts : IsGivenBelow (2 ^ 32) bounds.attempts
  pub millis : IsGivenBelow (2 ^ 64) bounds.millis

abbrev pub IsPolicy : SaidPolicy → Type 0
IsPolicy policies.Always = Unit {0}
IsPolicy policies.Never = Unit {0}
IsPolicy (policies.FixedDelay interval bounds) = IsGivenBelow (2 ^ 64) interval × IsBounds bounds
IsPolicy (policies.Exponential initial numerator denominator most bounds) =
    (initial < 2 ^ 64) × (numerator < 2 ^ 32) × (denominator < 2 ^ 32) × (denominator ≢ 0) × IsGivenBelow (2 ^ 64) most × IsBounds bounds

abbrev pub IsOutcome : SaidOutcome → Type 0
IsOutcome (outcomes.Success bytes) = All IsByte bytes
IsOutcome (outcomes.Failure failure) = IsFailure failure
IsOutcome (outcomes.Retry code message millis policy) = (code < 2 ^ 16) × IsText message × (millis < 2 ^ 64) × IsPolicy policy
