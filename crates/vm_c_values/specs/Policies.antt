-- The policy of a run's retries that a host's numbers say.
use Rattle.std.specs.Prelude.{◌≡◌, ℕ, ◌*◌, ◌==◌, if◌then◌else◌, Option, Some, None}
use Rattle.std.specs.Duration.{as_nanos}
use Rattle.std.specs.declared.time.Duration.{Duration}
use Rattle.vm_refusals.specs.declared.retries.OnMaxAttempts.{OnMaxAttempts}
use Rattle.vm_refusals.specs.declared.retries.OnMaxAttempts.TheVariants as bounds
use Rattle.vm_refusals.specs.declared.retries.RetryPolicy.{RetryPolicy}
use Rattle.vm_refusals.specs.declared.retries.RetryPolicy.TheVariants as policies
use Rattle.vm_c_values.specs.Options.{is_set}
use Rattle.vm_c_values.specs.declared.policy.Policy.{Policy}

-- 0 says that none is given
abbrev pub number_given : ℕ → Option ℕ
number_given given = if given == 0 then None else Some given

abbrev pub IsSpan : (millis : ℕ) → Option Duration → Type 0
IsSpan millis None = millis ≡ 0
IsSpan millis (Some span) = (millis ≡ 0 → ⊥) × (as_nanos span ≡ millis * 1_000_000)

abbrev pub at_bound : (pause : ℕ) → OnMaxAttempts
at_bound pause = if is_set pause then bounds.Pause else bounds.FailAsTerminal

abbrev pub IsPolicy : Policy → RetryPolicy → Type 0
IsPolicy policy policies.Infinite = policy.kind ≡ 0
IsPolicy policy policies.None = policy.kind ≡ 1
IsPolicy policy (policies.FixedDelay interval attempts duration bound) =
    (policy.kind ≡ 2) × IsSpan policy.interval_millis interval × (attempts ≡ number_given policy.max_attempts) × IsSpan policy.max_duration_millis duration × (bound ≡ at_bound policy.pause)
IsPolicy policy (policies.Exponential first factor most attempts duration bound) =
    (policy.kind ≡ 3) × (as_nanos first ≡ policy.interval_millis * 1_000_000) × (factor.numerator ≡ policy.factor_numerator) × (factor.denominator ≡ policy.factor_denominator)
    × IsSpan policy.max_interval_millis most × (attempts ≡ number_given policy.max_attempts) × IsSpan policy.max_duration_millis duration × (bound ≡ at_bound policy.pause)
