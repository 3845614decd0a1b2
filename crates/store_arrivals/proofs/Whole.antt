-- What is made ready of the rows that are due is what is made ready of a tick.
use Rattle.std.proofs.Common.{ℕ, ◌≡◌, refl, sym, ap, subst, ◌∙◌, List, [], length, map, Result, Ok, Err, IsErrAnd, IsTrue}
use Rattle.sqlite.specs.State.{State, HasCleanDisk}
use Rattle.sqlite_keyed.specs.Lists.{sort_by}
use Rattle.journal_model.specs.Notification.{Text}
use Rattle.journal_model.specs.Event.{Event}
use Rattle.journal_model.specs.Cause.{causes_of}
use Rattle.sql_tables.specs.declared.read.ReadError.{ReadError}
use Rattle.sql_tables.specs.declared.read.ReadError.TheVariants.{Refused, Foreign, OutOfMemory}
use Rattle.store_tables.specs.Orders.{AreAlike, AreDue, sleep_cmp}
use Rattle.store_tables.specs.declared.row.SleepRow.{SleepRow}
use Rattle.store_model.specs.Sleeps.{due_until}
use Rattle.store_model.specs.Writes.{AreEnding}
use Rattle.store_model.specs.Lookups.{due_sleeps}
use Rattle.store_model.proofs.DueSleeps.{ended_found}
use Rattle.store_refusals.specs.declared.refusal.Refusal.{Refusal}
use Rattle.store_refusals.specs.RefusalConditions.{IsRefused, is_circumstance, reading_refusal}
use Rattle.store_refusals.specs.Preparations.{Keeps, Prepares}
use Rattle.store_invocations.specs.Rows.{Decides}
use Rattle.store_arrivals.specs.Groups.{Group, grouped, those_ended}
use Rattle.store_arrivals.specs.PreparedTicks.{AreOpen, IsEndedUntil, IsTickReady, tests_of}
use Rattle.store_arrivals.specs.declared.tick.PreparedTick.{PreparedTick}
use Rattle.store_arrivals.proofs.Ending.{all_ending, found, id_of}
use Rattle.store_arrivals.proofs.Ready.{all_groups, all_open, all_written}
use Rattle.store_arrivals.proofs.Counting.{all_ended_counted}
use Rattle.store_arrivals.proofs.Using.{accepted_tick, refused_tick}

module _ (events : List Event) (now : ℕ) (s : State) (k : Keeps events s) where
  -- the rows that are found are those that are due
  pub rows_due : (until : ℕ) (rows : List SleepRow) → until ≡ due_until now → AreDue until s.now.trees rows → rows ≡ sort_by sleep_cmp (due_sleeps now k.records)
  rows_due until rows same due =
      subst (λ (moment : ℕ). AreDue moment s.now.trees rows) same due k.records k.held (ended_found events now k.records k.accepted k.kept).apart

  abbrev due : List Group
  due = those_ended now k.records

  groups_due : (rows : List SleepRow) (groups : List Group) → rows ≡ sort_by sleep_cmp (due_sleeps now k.records) → groups ≡ grouped rows → groups ≡ due
  groups_due rows groups are is = is ∙ ap grouped are

  pub open_due : (rows : List SleepRow) (groups : List Group) → rows ≡ sort_by sleep_cmp (due_sleeps now k.records) → groups ≡ grouped rows → AreOpen events groups
  open_due rows groups are is =
      subst (AreOpen events) (sym (groups_due rows groups are is)) (all_open events now due (all_groups events now k.records k.accepted k.kept))

  ready : (count : ℕ) (made : PreparedTick) → count ≡ length (sort_by sleep_cmp (due_sleeps now k.records)) → IsEndedUntil events (due_until now) count due made → IsTickReady events now made
  ready count made counted is =
      let all = all_groups events now k.records k.accepted k.kept in
      record {
        ids = map id_of due;
        ending = all_ending events now k.records k.accepted k.kept;
        writes = is.writes ∙ all_written events now k.accepted due all;
        count = is.counted ∙ counted ∙ all_ended_counted events now k.records k.accepted k.kept;
      }

  decided : (count : ℕ) (r : Result PreparedTick Refusal) → count ≡ length (sort_by sleep_cmp (due_sleeps now k.records))
      → Decides (tests_of events due) (IsEndedUntil events (due_until now) count due) r → Prepares events (Event.Tick now) (IsTickReady events now) r
  decided count (Ok made) counted is = (
    accepted_tick events now s k due (all_groups events now k.records k.accepted k.kept) (found events now k.records k.accepted k.kept) is.0,
    ready count made counted is.1,
  )
  decided count (Err why) counted refused =
      refused_tick events now s k due (all_groups events now k.records k.accepted k.kept) (found events now k.records k.accepted k.kept) why refused

  pub tick_ready : (until count : ℕ) (rows : List SleepRow) (groups : List Group) (r : Result PreparedTick Refusal) → until ≡ due_until now → count ≡ length rows
      → rows ≡ sort_by sleep_cmp (due_sleeps now k.records) → groups ≡ grouped rows → Decides (tests_of events groups) (IsEndedUntil events until count groups) r
      → Prepares events (Event.Tick now) (IsTickReady events now) r
  tick_ready until count rows groups r same counted are is ended =
      decided count r (counted ∙ ap length are)
      (subst (λ (gs : List Group). Decides (tests_of events gs) (IsEndedUntil events (due_until now) count gs) r) (groups_due rows groups are is)
      (subst (λ (moment : ℕ). Decides (tests_of events groups) (IsEndedUntil events moment count groups) r) same ended))

-- a refusal of the question is a circumstance
pub asked_due : (events : List Event) (now until : ℕ) (s : State) (e : ReadError) → until ≡ due_until now → (e ≡ Foreign → IsTrue s.is_open) → (e ≡ Foreign → AreAlike until s.now.trees)
    → (IsTrue s.is_open → Keeps events s) → IsTrue (is_circumstance (reading_refusal e))
asked_due events now until s (Refused cause) same is_open alike keeps = refl
asked_due events now until s OutOfMemory same is_open alike keeps = refl
asked_due events now until s Foreign same is_open alike keeps =
    let k = keeps (is_open refl) in
    absurd (subst (λ (moment : ℕ). AreAlike moment s.now.trees) same (alike refl) k.records k.held (ended_found events now k.records k.accepted k.kept).apart)

-- what a `?` lets out
pub prepared_err : {A : Type 0} {Q : Refusal → Type 0} (events : List Event) (event : Event) (IsMade : A → Type 0) (r : Result A Refusal) → IsErrAnd r Q
    → ((why : Refusal) → Q why → IsRefused (causes_of events event) why) → Prepares events event IsMade r
prepared_err events event IsMade (Ok made) q f = absurd q
prepared_err events event IsMade (Err why) q f = f why q
