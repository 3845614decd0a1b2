-- Until when invocations are put off whose attempts have failed. Moments and delays are in milliseconds.
use Rattle.std.specs.Prelude.{◌≡◌, ◌⊎◌, ◌+◌, ◌-◌, ◌*◌, ◌/◌, ◌^◌, ℕ, min, Bool, true, false, bytes_eq, nat_lt, List, fold, Option, Some, None}
use Rattle.std.specs.Duration.{as_nanos}
use Rattle.std.specs.Map.{lookup}
use Rattle.std.specs.declared.time.Duration.{Duration}
use Rattle.journal_model.specs.Notification.{Text}
use Rattle.protocol_errors.specs.declared.error.ErrorBehavior.{ErrorBehavior}
use Rattle.protocol_errors.specs.declared.error.ErrorBehavior.TheVariants.{Retry, Pause, Fail}
use Rattle.scheduler.specs.declared.outcome.Outcome.{Outcome}
use Rattle.scheduler.specs.declared.waits.Wait.{Wait}

-- what is put off, by the invocation's id
abbrev pub PutOff : Type 0
PutOff = List (Text × Wait)

abbrev pub wait_of : PutOff → Text → Option Wait
wait_of waits id = lookup (bytes_eq id) waits

-- ---- for how long

-- where no other delay is asked for: 50, and each time twice as long as the last time, up to 10 seconds
abbrev pub usual_delay : Option Wait → ℕ
usual_delay None = 50
usual_delay (Some wait) = min (2 * wait.delay) 10_000

abbrev pub delay_by : Option Duration → (usual : ℕ) → ℕ
delay_by None usual = usual
delay_by (Some asked) usual = as_nanos asked / 1_000_000

-- so long behind a moment, or the last moment that there is
abbrev pub moment_after : (now delay : ℕ) → ℕ
moment_after now delay = min (now + delay) (2 ^ 64 - 1)

-- What is to become of an invocation whose attempt has failed: another attempt at a later moment, none until it is resumed, or none.
abbrev pub wait_by : ErrorBehavior → Option Duration → (now : ℕ) → Option Wait → Option Wait
wait_by Retry asked now before = Some (record { until = Some (moment_after now (delay_by asked (usual_delay before))); delay = usual_delay before })
wait_by Pause asked now before = Some (record { until = None; delay = usual_delay before })
wait_by Fail asked now before = None

-- by what its attempt has come to: what was refused is tried again like a failure that asks for no delay
abbrev pub wait_after : Outcome → (now : ℕ) → Option Wait → Option Wait
wait_after Outcome.Ended now before = None
wait_after Outcome.Suspended now before = None
wait_after (Outcome.Failed error) now before = wait_by error.behavior error.next_retry_delay now before
wait_after Outcome.Unfinished now before = wait_by Retry None now before
wait_after (Outcome.Refused why) now before = wait_by Retry None now before

-- ---- what is known then

-- an invocation is put off so, or no longer, and the others as before
pub record IsNow (id : Text) (wait : Option Wait) (old new : PutOff) : Type 0 where
  pub own : wait_of new id ≡ wait
  pub others : (other : Text) → bytes_eq id other ≡ false → wait_of new other ≡ wait_of old other

-- that is noted, unless there is no memory for what is put off
abbrev pub Notes : Text → Option Wait → PutOff → PutOff → Type 0
Notes id None old new = IsNow id None old new
Notes id (Some wait) old new = IsNow id (Some wait) old new ⊎ (new ≡ old)

-- ---- what is asked

-- to a later moment than this, or until it is resumed
abbrev pub is_later : Option ℕ → (now : ℕ) → Bool
is_later None now = true
is_later (Some until) now = nat_lt now until

abbrev pub is_put_off : Option Wait → (now : ℕ) → Bool
is_put_off None now = false
is_put_off (Some wait) now = is_later wait.until now

abbrev pub is_paused : Option Wait → Bool
is_paused None = false
is_paused (Some wait) = is_until_resumed wait.until
  where
    is_until_resumed : Option ℕ → Bool
    is_until_resumed None = true
    is_until_resumed (Some until) = false

-- the earlier of two moments, where there are any
abbrev pub earlier : Option ℕ → Option ℕ → Option ℕ
earlier None other = other
earlier (Some one) None = Some one
earlier (Some one) (Some other) = Some (min one other)

-- the earliest moment to which something is put off
abbrev pub first_moment : PutOff → Option ℕ
first_moment waits = fold (λ first one. earlier first one.1.until) None waits
