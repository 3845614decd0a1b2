-- What is made ready of a tick: the ends of the sleeps that are due, invocation by invocation.
use Rattle.std.specs.Prelude.{◌≡◌, ℕ, ◌+◌, ◌-◌, ◌^◌, ◌<◌, nat_lt, Bool, true, false, bytes_eq, List, [], ◌∷◌, ◌++◌, length, map, flat_map}
use Rattle.std.specs.List.{AllByRecursion}
use Rattle.journal_model.specs.Notification.{Text}
use Rattle.journal_model.specs.Event.{Event}
use Rattle.journal_model.specs.Journal.{is_open, entries_of, recorded_arrivals}
use Rattle.journal_model.specs.Attempt.{completions_of_tick}
use Rattle.journal_model.specs.Cause.{Tests, IsAccepted, causes_of}
use Rattle.journal_model.specs.declared.cause.Cause.{Cause}
use Rattle.store_tables.specs.Records.{Records, applied_all}
use Rattle.store_tables.specs.declared.row.InvocationRow.{InvocationRow}
use Rattle.store_tables.specs.declared.row.Progress.{Progress}
use Rattle.store_tables.specs.declared.row.Write.{Write}
use Rattle.store_tables.specs.declared.row.Write.TheVariants.{AddEntry, SetProgress, CloseSleepsUntil}
use Rattle.store_model.specs.KeptRecords.{IsKept}
use Rattle.store_model.specs.Progress.{progress_of}
use Rattle.store_model.specs.Steps.{grown}
use Rattle.store_model.specs.Writes.{AreEnding, tick_writes}
use Rattle.store_arrivals.specs.Arrivals.{HasFewArrivals}
use Rattle.store_arrivals.specs.SleepEnds.{end_rows}
use Rattle.store_arrivals.specs.Groups.{Group}
use Rattle.store_arrivals.specs.ArrivalRows.{ends_of, flagged}
use Rattle.store_arrivals.specs.declared.tick.PreparedTick.{PreparedTick}

-- ---- one invocation

-- so many more entries have places behind those that there are
abbrev pub room_tests : (entries more : ℕ) → Tests
room_tests entries more = (nat_lt (2 ^ 32 - 1) (entries + more), Cause.NumbersUsedUp) ∷ []

-- the ends of these sleeps behind the entries of an invocation that is so far, and how far it is then
abbrev pub progress_writes : Text → Progress → List ℕ → List Write
progress_writes id progress ns = map AddEntry (end_rows id progress.entries progress.arrivals ns) ++ SetProgress id (grown (length ns) (length ns) progress) ∷ []

-- of the invocation that has this row
abbrev pub row_writes : InvocationRow → List ℕ → List Write
row_writes row ns = progress_writes row.id row.progress ns

-- written behind other writes
abbrev pub AreEndsOf : InvocationRow → List ℕ → (before after : List Write) → Type 0
AreEndsOf row ns before after = HasFewArrivals row.progress → after ≡ before ++ row_writes row ns

-- ---- by the accepted events

abbrev pub next_place : List Event → Text → ℕ
next_place events id = 1 + length (entries_of events id)

-- how many arrivals there are
abbrev pub arrivals_before : List Event → Text → ℕ
arrivals_before events id = length (recorded_arrivals events id)

abbrev pub group_writes : List Event → Group → List Write
group_writes events group =
    map AddEntry (end_rows group.0 (next_place events group.0) (arrivals_before events group.0) group.1) ++ SetProgress group.0 (grown (length group.1) (length group.1) (flagged events group.0 (ends_of group.1) (progress_of events group.0))) ∷ []

abbrev pub group_tests : List Event → Group → Tests
group_tests events group = room_tests (next_place events group.0) (length group.1)

abbrev pub IsGroupEnded : List Event → Group → (before after : List Write) → Type 0
IsGroupEnded events group before after = after ≡ before ++ group_writes events group

-- one after another
abbrev pub AreOpen : List Event → List Group → Type 0
AreOpen events = AllByRecursion (λ (group : Group). is_open events group.0 ≡ true)

abbrev pub tests_of : List Event → List Group → Tests
tests_of events groups = flat_map (group_tests events) groups

abbrev pub AreGroupsEnded : List Event → List Group → (before after : List Write) → Type 0
AreGroupsEnded events groups before after = after ≡ before ++ flat_map (group_writes events) groups

-- ---- the tick

-- where some sleeps are ended, those until a moment are closed behind other writes
abbrev pub closed_until : Bool → ℕ → List Write → List Write
closed_until true until writes = writes ++ CloseSleepsUntil until ∷ []
closed_until false until writes = writes

-- all sleeps until a moment are closed where some are ended
abbrev pub until_writes : List Event → ℕ → List Group → List Write
until_writes events until [] = []
until_writes events until (group ∷ groups) = flat_map (group_writes events) (group ∷ groups) ++ CloseSleepsUntil until ∷ []

pub record IsEndedUntil (events : List Event) (until count : ℕ) (groups : List Group) (made : PreparedTick) : Type 0 where
  pub writes : made.writes.items ≡ until_writes events until groups
  pub counted : made.count ≡ count

-- where no sleep is ended nothing is written
abbrev pub ready_writes : List Event → ℕ → List Text → List Write
ready_writes events now [] = []
ready_writes events now (id ∷ ids) = tick_writes events now (id ∷ ids)

-- and so the records are kept that are kept after the tick
abbrev pub ReadyKeeps : Type 0
ReadyKeeps = (events : List Event) (now : ℕ) (ids : List Text) (r : Records) → IsAccepted events → causes_of events (Event.Tick now) ≡ [] → AreEnding events now ids
    → IsKept events r → IsKept (Event.Tick now ∷ events) (applied_all (ready_writes events now ids) r)

-- of these invocations sleeps are ended
pub record IsTickReady (events : List Event) (now : ℕ) (made : PreparedTick) : Type 0 where
  pub ids : List Text
  pub ending : AreEnding events now ids
  pub writes : made.writes.items ≡ ready_writes events now ids
  pub count : made.count ≡ completions_of_tick events now
