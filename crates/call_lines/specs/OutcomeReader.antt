-- What the words of a body's end spell.
use Rattle.std.specs.Prelude.{ℕ, ◌^◌, ◌==◌, Bool, true, false, List, [], ◌∷◌, Option, Some, None, codes, if◌then◌else◌, bytes_eq}
use Rattle.script_lines.specs.LineReader.{◌>>=◌, at_colon, number_below}
use Rattle.server_lines.specs.WordReader.{unescaped}
use Rattle.call_lines.specs.WordReader.{failure_of, told_of}
use Rattle.call_lines.specs.declared.policy.SaidBounds.{SaidBounds}
use Rattle.call_lines.specs.declared.policy.SaidPolicy.{SaidPolicy}
use Rattle.call_lines.specs.declared.policy.SaidPolicy.TheVariants as policies
use Rattle.call_lines.specs.declared.outcome.SaidOutcome.{SaidOutcome}
use Rattle.call_lines.specs.declared.outcome.SaidOutcome.TheVariants as outcomes

-- a number that may be none
unfoldable pub given_64 : List ℕ → Option (Option ℕ)
given_64 word = if bytes_eq word (codes "none") then Some None else (do
  number ← number_below (2 ^ 64) word
  Some (Some number))

unfoldable pub given_32 : List ℕ → Option (Option ℕ)
given_32 word = if bytes_eq word (codes "none") then Some None else (do
  number ← number_below (2 ^ 32) word
  Some (Some number))

unfoldable pub pauses_of : List ℕ → Option Bool
pauses_of word = if bytes_eq word (codes "fail") then Some false else
    (if bytes_eq word (codes "pause") then Some true else None)

unfoldable pub bounds_of : List (List ℕ) → Option SaidBounds
bounds_of (attempts ∷ millis ∷ pauses ∷ []) = do
  attempts ← given_32 attempts
  millis ← given_64 millis
  pauses ← pauses_of pauses
  Some (record { attempts = attempts; millis = millis; pauses = pauses })
bounds_of words = None

unfoldable pub fixed_delay_of : List (List ℕ) → Option SaidPolicy
fixed_delay_of [] = None
fixed_delay_of (interval ∷ bounds) = do
  interval ← given_64 interval
  bounds ← bounds_of bounds
  Some (policies.FixedDelay interval bounds)

unfoldable pub exponential_of : List (List ℕ) → Option SaidPolicy
exponential_of (initial ∷ numerator ∷ denominator ∷ most ∷ bounds) = do
  initial ← number_below (2 ^ 64) initial
  numerator ← number_below (2 ^ 32) numerator
  denominator ← number_below (2 ^ 32) denominator
  most ← given_64 most
  bounds ← bounds_of bounds
  if denominator == 0 then None else Some (policies.Exponential initial numerator denominator most bounds)
exponential_of words = None

-- a policy without words of its own
unfoldable pub plain_policy_of : List ℕ → List (List ℕ) → Option SaidPolicy
plain_policy_of word [] = if bytes_eq word (codes "always") then Some policies.Always else
    (if bytes_eq word (codes "never") then Some policies.Never else None)
plain_policy_of word others = None

unfoldable pub policy_of : List (List ℕ) → Option SaidPolicy
policy_of [] = None
policy_of (word ∷ others) = if bytes_eq word (codes "fixed-delay") then fixed_delay_of others else
    (if bytes_eq word (codes "exponential") then exponential_of others else plain_policy_of word others)

-- ---- outcomes

unfoldable pub brought_of : List ℕ → List (List ℕ) → Option SaidOutcome
brought_of text [] = do
  bytes ← unescaped text
  Some (outcomes.Success bytes)
brought_of text others = None

-- how long it took, and the policy
unfoldable pub retry_of : List ℕ → List (List ℕ) → Option SaidOutcome
retry_of text [] = None
retry_of text (millis ∷ policy) = do
  millis ← number_below (2 ^ 64) millis
  policy ← policy_of policy
  told ← told_of text
  Some (outcomes.Retry told.0 told.1 millis policy)

-- the outcome of a kind, spelled behind the colon
unfoldable pub outcome_in : List ℕ → List ℕ → List (List ℕ) → Option SaidOutcome
outcome_in kind text others =
    if bytes_eq kind (codes "ok") then brought_of text others else
    (if bytes_eq kind (codes "fail") then (do
      failure ← failure_of text others
      Some (outcomes.Failure failure)) else
    (if bytes_eq kind (codes "retry") then retry_of text others else None))

unfoldable pub outcome_of : List (List ℕ) → Option SaidOutcome
outcome_of [] = None
outcome_of (word ∷ others) = do
  parts ← at_colon word
  outcome_in parts.0 parts.1 others
