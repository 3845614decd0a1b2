-- What becomes of a run that has failed, by the policy of its retries. Lengths of time are in nanoseconds.
use Rattle.std.specs.Prelude.{ℕ, zero, suc, ◌+◌, ◌-◌, ◌*◌, ◌/◌, ◌^◌, min, nat_lt, nat_le, Bool, true, false, ◌||◌, if◌then◌else◌, Option, Some, None, unwrap_or, option_map}
use Rattle.std.specs.declared.time.Duration.{Duration}
use Rattle.std.specs.Duration.{as_nanos, max_nanos}
use Rattle.vm_refusals.specs.declared.retries.EntryRetryInfo.{EntryRetryInfo}
use Rattle.vm_refusals.specs.declared.retries.OnMaxAttempts.{OnMaxAttempts}
use Rattle.vm_refusals.specs.declared.retries.RetryPolicy.{RetryPolicy}
use Rattle.vm_refusals.specs.declared.retries.NextRetry.{NextRetry}

-- how often a run was tried, and for how long
pub record Tried : Type 0 where
  pub count : ℕ
  pub nanos : ℕ

abbrev pub tried : EntryRetryInfo → Tried
tried info = record { count = info.retry_count; nanos = as_nanos info.retry_loop_duration }

-- what a run inherits of the attempts before this one: all that the start has told, where no command was written in this attempt, the time
-- only where one has failed; else nothing
abbrev pub inherits : (has_written : Bool) → (started : Tried) → Tried
inherits true started = record { count = 0; nanos = 0 }
inherits false started = record { count = started.count; nanos = if nat_lt 0 started.count then started.nanos else 0 }

-- one more attempt has failed, after so long; neither number goes past its greatest
abbrev pub one_more : (attempt : ℕ) → Tried → Tried
one_more attempt before = record { count = min (before.count + 1) (2 ^ 32 - 1); nanos = min (before.nanos + attempt) max_nanos }

-- what becomes of a run that has failed
pub data AfterFailure : Type 0 where
  -- it is tried again, after this interval, or after one that the runtime chooses
  TriedAgain : (interval : Option ℕ) → AfterFailure
  FailsAsTerminal : AfterFailure
  Pauses : AfterFailure

abbrev pub as_told : NextRetry → AfterFailure
as_told (NextRetry.Retry interval) = TriedAgain (option_map as_nanos interval)
as_told NextRetry.FailAsTerminal = FailsAsTerminal
as_told NextRetry.Pause = Pauses

-- ---- intervals that grow

-- an interval, one retry later, in whole nanoseconds; none once one was longer than the longest duration
abbrev pub longer_by : (numerator denominator : ℕ) → Option ℕ → Option ℕ
longer_by numerator denominator None = None
longer_by numerator denominator (Some interval) =
    if nat_lt max_nanos (interval * numerator / denominator) then None else Some (interval * numerator / denominator)

-- the interval so many retries after the first
abbrev pub interval_after : (initial numerator denominator : ℕ) → (retries : ℕ) → Option ℕ
interval_after initial numerator denominator zero = Some initial
interval_after initial numerator denominator (suc retries) = longer_by numerator denominator (interval_after initial numerator denominator retries)

-- no interval is longer than the most
abbrev pub at_most : (most : ℕ) → Option ℕ → ℕ
at_most most None = most
at_most most (Some interval) = min most interval

-- the most is the longest duration, where none is given
abbrev pub most_of : Option Duration → ℕ
most_of most = unwrap_or (option_map as_nanos most) max_nanos

-- ---- bounds

-- a bound is reached that is at most this; one that is not given never is
abbrev pub is_reached : Option ℕ → ℕ → Bool
is_reached None n = false
is_reached (Some bound) n = nat_le bound n

abbrev pub reaches_bound : (max_attempts : Option ℕ) → (max_duration : Option Duration) → Tried → Bool
reaches_bound max_attempts max_duration failed = is_reached max_attempts failed.count || is_reached (option_map as_nanos max_duration) failed.nanos

abbrev pub at_bound : OnMaxAttempts → AfterFailure
at_bound OnMaxAttempts.FailAsTerminal = FailsAsTerminal
at_bound OnMaxAttempts.Pause = Pauses

-- ---- policies

-- what becomes of a run that has failed so often, and for so long: the first failure is followed by the initial interval
abbrev pub after_failure : RetryPolicy → (failed : Tried) → AfterFailure
after_failure RetryPolicy.Infinite failed = TriedAgain None
after_failure RetryPolicy.None failed = FailsAsTerminal
after_failure (RetryPolicy.FixedDelay interval max_attempts max_duration on_max_attempts) failed =
    if reaches_bound max_attempts max_duration failed then at_bound on_max_attempts else TriedAgain (option_map as_nanos interval)
after_failure (RetryPolicy.Exponential initial_interval factor max_interval max_attempts max_duration on_max_attempts) failed =
    if reaches_bound max_attempts max_duration failed then at_bound on_max_attempts
    else TriedAgain (Some (at_most (most_of max_interval) (interval_after (as_nanos initial_interval) factor.numerator factor.denominator (failed.count - 1))))

-- whether a policy may pause an invocation
abbrev pub pauses_at_bound : OnMaxAttempts → Bool
pauses_at_bound OnMaxAttempts.FailAsTerminal = false
pauses_at_bound OnMaxAttempts.Pause = true

abbrev pub may_pause : RetryPolicy → Bool
may_pause RetryPolicy.Infinite = false
may_pause RetryPolicy.None = false
may_pause (RetryPolicy.FixedDelay interval max_attempts max_duration on_max_attempts) = pauses_at_bound on_max_attempts
may_pause (RetryPolicy.Exponential initial_interval factor max_interval max_attempts max_duration on_max_attempts) = pauses_at_bound on_max_attempts
