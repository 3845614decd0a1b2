-- The end of a body is read back from its words.
use Rattle.std.proofs.Common.{◌≡◌, ℕ, ◌^◌, Bool, true, false, ◌++◌, Option, Some, None, refl, arith}
use Rattle.std.specs.Prelude.{codes}
use Rattle.std.proofs.lemmas.Bool.{ne_eqb}
use Rattle.script_lines.specs.LineReader.{at_colon, then_read}
use Rattle.script_lines.proofs.ValueLaws.{colon_again}
use Rattle.script_lines.proofs.WordLaws.{number_32, number_64}
use Rattle.server_lines.specs.Word.{escaped}
use Rattle.server_lines.proofs.Escapes.{unescaped_again}
use Rattle.call_lines.specs.Outcome.{IsBounds, IsGivenBelow, IsOutcome, IsPolicy, bounds_words, given_word, outcome_words, pauses_word, policy_words}
use Rattle.call_lines.specs.OutcomeReader.{bounds_of, brought_of, exponential_of, fixed_delay_of, given_32, given_64, outcome_in, outcome_of, pauses_of, plain_policy_of, policy_of, retry_of}
use Rattle.call_lines.specs.Word.{told_text}
use Rattle.call_lines.specs.declared.policy.SaidBounds.{SaidBounds}
use Rattle.call_lines.specs.declared.policy.SaidPolicy.{SaidPolicy}
use Rattle.call_lines.specs.declared.policy.SaidPolicy.TheVariants as policies
use Rattle.call_lines.specs.declared.outcome.SaidOutcome.{SaidOutcome}
use Rattle.call_lines.specs.declared.outcome.SaidOutcome.TheVariants as outcomes
use Rattle.call_lines.proofs.WordLaws.{failure_again, no_word, told_again}

given_64-again : (given : Option ℕ) → IsGivenBelow (2 ^ 64) given → given_64 (given_word given) ≡ Some given
unfolding given_64 then_read
given_64-again None h = refl
given_64-again (Some number) h = rw (no_word number 110 (codes "one") h (omega arith), number_64.again number h) refl

given_32-again : (given : Option ℕ) → IsGivenBelow (2 ^ 32) given → given_32 (given_word given) ≡ Some given
unfolding given_32 then_read
given_32-again None h = refl
given_32-again (Some number) h = rw (no_word number 110 (codes "one") (omega arith) (omega arith), number_32.again number h) refl

pauses-again : (pauses : Bool) → pauses_of (pauses_word pauses) ≡ Some pauses
unfolding pauses_of
pauses-again false = refl
pauses-again true = refl

bounds_again : (bounds : SaidBounds) → IsBounds bounds → bounds_of (bounds_words bounds) ≡ Some bounds
unfolding bounds_of then_read
bounds_again bounds h = rw (given_32-again bounds.attempts h.attempts, given_64-again bounds.millis h.millis, pauses-again bounds.pauses) refl

policy_again : (policy : SaidPolicy) → IsPolicy policy → policy_of (policy_words policy) ≡ Some policy
unfolding policy_of plain_policy_of fixed_delay_of exponential_of then_read
policy_again policies.Always h = refl
policy_again policies.Never h = refl
policy_again (policies.FixedDelay interval bounds) h = rw (given_64-again interval h.0, bounds_again bounds h.1) refl
policy_again (policies.Exponential initial numerator denominator most bounds) h =
    rw (number_64.again initial h.0, number_32.again numerator h.1, number_32.again denominator h.2, given_64-again most h.4, bounds_again bounds h.5, ne_eqb denominator 0 h.3) refl

pub outcome_again : (outcome : SaidOutcome) → IsOutcome outcome → outcome_of (outcome_words outcome) ≡ Some outcome
unfolding outcome_of outcome_in brought_of retry_of then_read
outcome_again (outcomes.Success bytes) h =
    let parts : at_colon (codes "ok:" ++ escaped bytes) ≡ Some (codes "ok", escaped bytes) = colon_again (codes "ok") (escaped bytes) (refl, (refl, tt)) in
    rw (parts, unescaped_again bytes h) refl
outcome_again (outcomes.Failure failure) h =
    let text = told_text failure.code failure.message in
    let parts : at_colon (codes "fail:" ++ text) ≡ Some (codes "fail", text) = colon_again (codes "fail") text (refl, (refl, (refl, (refl, tt)))) in
    rw (parts, failure_again failure h) refl
outcome_again (outcomes.Retry code message millis policy) h =
    let text = told_text code message in
    let parts : at_colon (codes "retry:" ++ text) ≡ Some (codes "retry", text) = colon_again (codes "retry") text (refl, (refl, (refl, (refl, (refl, tt))))) in
    rw (parts, number_64.again millis h.2, policy_again policy h.3, told_again code message h.0 h.1) refl
