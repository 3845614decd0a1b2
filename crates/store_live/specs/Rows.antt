-- The rows of the invocations of live attempts, and what writes make of them.
use Rattle.std.specs.Prelude.{◌≡◌, ℕ, if◌then◌else◌, List, [], ◌∷◌, option_map, bytes_eq}
use Rattle.store_tables.specs.declared.row.InvocationRow.{InvocationRow}
use Rattle.store_tables.specs.declared.row.Progress.{Progress}
use Rattle.store_tables.specs.declared.row.Write.{Write}
use Rattle.store_tables.specs.declared.row.Write.TheVariants.{SetProgress}
use Rattle.store_live.specs.declared.attempt.LiveAttempt.{LiveAttempt}
use Rattle.store_live.specs.Attempts.{ByInvocation, attempt_of}

abbrev pub row_with_progress : Progress → InvocationRow → InvocationRow
row_with_progress progress row = record row { progress = progress }

-- the row of the invocation with this id after a write, and after each in turn
abbrev pub row_noted : List ℕ → Write → InvocationRow → InvocationRow
row_noted id (SetProgress other progress) row = if bytes_eq other id then row_with_progress progress row else row
row_noted id _ row = row

abbrev pub row_after : List ℕ → List Write → InvocationRow → InvocationRow
row_after id [] row = row
row_after id (write ∷ writes) row = row_after id writes (row_noted id write row)

-- nothing is changed but the row
abbrev pub live_with_progress : Progress → LiveAttempt → LiveAttempt
live_with_progress progress attempt = record attempt { row = row_with_progress progress attempt.row }

abbrev pub live_noted : List ℕ → List Write → LiveAttempt → LiveAttempt
live_noted id writes attempt = record attempt { row = row_after id writes attempt.row }

-- the writes were taken in, of whichever invocation
abbrev pub AreNoted : List Write → ByInvocation → ByInvocation → Type 0
AreNoted writes old new = (id : List ℕ) → attempt_of new id ≡ option_map (live_noted id writes) (attempt_of old id)
