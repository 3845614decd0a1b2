-- Worked rows: intervals, bounds, and what the end of a body comes to, by computation.
use Rattle.std.proofs.Common.{◌≡◌, refl, ℕ, ◌-◌, ◌*◌, ◌^◌, arith, true, false, [], Option, Some, None, codes, ap}
use Rattle.std.specs.declared.time.Duration.{Duration}
use Rattle.std.specs.Duration.{max_nanos}
use Rattle.protocol_types.specs.declared.feature.Feature.TheVariants as features
use Rattle.journal_model.specs.declared.value.NonEmptyValue.{NonEmptyValue}
use Rattle.protocol_errors.specs.declared.error.Error.{Error}
use Rattle.protocol_errors.specs.Error.{plain_error}
use Rattle.vm_refusals.specs.declared.retries.OnMaxAttempts.{OnMaxAttempts}
use Rattle.vm_refusals.specs.declared.retries.Factor.{Factor}
use Rattle.vm_refusals.specs.declared.retries.RetryPolicy.{RetryPolicy}
use Rattle.vm_refusals.specs.declared.runs.RunExitResult.{RunExitResult}
use Rattle.vm_refusals.specs.RetryDecisions.{Tried, inherits, one_more, TriedAgain, FailsAsTerminal, after_failure, at_most, interval_after}
use Rattle.vm_refusals.specs.BodyExits.{Outcome, Retry, Pause, ending, feature_lacked}
use Rattle.vm_refusals.proofs.Growing.{none-stays}

abbrev seconds : ℕ → Duration
seconds n = record { secs = n; nanos = 0 }

abbrev millis : ℕ → Duration
millis n = record { secs = 0; nanos = n * 1000000 }

abbrev twice : Factor
twice = record { numerator = 2; denominator = 1; divides = omega arith }

abbrev second : ℕ
second = 1000000000

abbrev failed : ℕ → Tried
failed count = record { count = count; nanos = 0 }

-- ---- intervals

abbrev doubling : (most : Option Duration) → RetryPolicy
doubling most = RetryPolicy.Exponential (seconds 1) twice most None None OnMaxAttempts.FailAsTerminal

first : after_failure (doubling None) (failed 1) ≡ TriedAgain (Some second)
first = refl

third : after_failure (doubling None) (failed 3) ≡ TriedAgain (Some (4 * second))
third = refl

longest : after_failure (doubling None) (failed 128) ≡ TriedAgain (Some max_nanos)
longest = refl

cut_to_most : after_failure (doubling (Some (seconds 30))) (failed 128) ≡ TriedAgain (Some (30 * second))
cut_to_most = refl

-- once past the longest duration they stay there, so also after the greatest count
longest_ever : after_failure (doubling None) (failed (2 ^ 32 - 1)) ≡ TriedAgain (Some max_nanos)
longest_ever = ap (λ (found : Option ℕ). TriedAgain (Some (at_most max_nanos found))) (none-stays second 2 1 127 (2 ^ 32 - 2) refl (omega arith))

cut_to_most_ever : after_failure (doubling (Some (seconds 30))) (failed (2 ^ 32 - 1)) ≡ TriedAgain (Some (30 * second))
cut_to_most_ever = ap (λ (found : Option ℕ). TriedAgain (Some (at_most (30 * second) found))) (none-stays second 2 1 127 (2 ^ 32 - 2) refl (omega arith))

-- without bounds each failure is tried again
always : (count : ℕ) → after_failure (doubling None) (failed count) ≡ TriedAgain (Some (at_most max_nanos (interval_after second 2 1 (count - 1))))
always count = refl

-- ---- bounds

abbrev bounded : RetryPolicy
bounded = RetryPolicy.Exponential (millis 125) twice (Some (millis 750)) None (Some (seconds 10)) OnMaxAttempts.FailAsTerminal

bounded_second : after_failure bounded (record { count = 2; nanos = second }) ≡ TriedAgain (Some 250000000)
bounded_second = refl

bounded_third : after_failure bounded (record { count = 3; nanos = second }) ≡ TriedAgain (Some 500000000)
bounded_third = refl

bounded_over : after_failure bounded (record { count = 4; nanos = 10 * second }) ≡ FailsAsTerminal
bounded_over = refl

-- ---- what is inherited, and counted

inherited : inherits false (record { count = 2; nanos = 5 }) ≡ record { count = 2; nanos = 5 }
inherited = refl

no_time : inherits false (record { count = 0; nanos = 5 }) ≡ failed 0
no_time = refl

not_inherited : inherits true (record { count = 2; nanos = 5 }) ≡ failed 0
not_inherited = refl

counted_no_further : one_more 5 (record { count = 2 ^ 32 - 1; nanos = max_nanos }) ≡ record { count = 2 ^ 32 - 1; nanos = max_nanos }
counted_no_further = refl

-- ---- the end of a body

abbrev boom : Error
boom = plain_error 500 (codes "boom")

abbrev fails : RunExitResult
fails = RunExitResult.RetryableFailure (seconds 0) boom

abbrev attempts : ℕ → OnMaxAttempts → RetryPolicy
attempts most at_bound = RetryPolicy.FixedDelay None (Some most) None at_bound

abbrev terminal : NonEmptyValue
terminal = NonEmptyValue.Failure (record { code = 500; message = codes "boom"; metadata = [] })

ends_at_bound : ending (attempts 1 OnMaxAttempts.FailAsTerminal) (failed 0) fails ≡ Outcome terminal
ends_at_bound = refl

pauses_at_bound : ending (attempts 1 OnMaxAttempts.Pause) (failed 0) fails ≡ Pause boom
pauses_at_bound = refl

-- by version 6 the policy is refused, whatever the body has exited with
pause_refused : feature_lacked 6 (attempts 1 OnMaxAttempts.Pause) fails ≡ Some features.ErrorBehavior
pause_refused = refl

pause_taken : feature_lacked 7 (attempts 1 OnMaxAttempts.Pause) fails ≡ None
pause_taken = refl

never_retried : ending RetryPolicy.None (failed 0) fails ≡ Outcome terminal
never_retried = refl

always_retried : ending RetryPolicy.Infinite (failed 0) fails ≡ Retry None boom
always_retried = refl

-- the third failure of three, if two are inherited
third_of_three : ending (attempts 3 OnMaxAttempts.FailAsTerminal) (inherits false (failed 2)) fails ≡ Outcome terminal
third_of_three = refl

first_of_three : ending (attempts 3 OnMaxAttempts.FailAsTerminal) (inherits true (failed 2)) fails ≡ Retry None boom
first_of_three = refl
