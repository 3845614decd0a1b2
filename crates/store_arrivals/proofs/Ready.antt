-- What is made ready of the groups of the sleeps that are due is what the tick writes.
use Rattle.std.proofs.Common.{ℕ, suc, ◌+◌, ◌≡◌, refl, sym, ap, ap₂, subst, ◌∙◌, Bool, true, false, ◌&&◌, not, if◌then◌else◌, List, [], ◌∷◌, ◌++◌, length, map, filter, flat_map, bytes_eq}
use Rattle.std.specs.List.{AllByRecursion}
use Rattle.sqlite_keyed.proofs.ListLemmas.{map-map}
use Rattle.journal_model.specs.Notification.{Text, Arrival}
use Rattle.journal_model.specs.Event.{Event}
use Rattle.journal_model.specs.Journal.{is_open, is_sleep_over, requests_in, sleeps_in, sorted_by_moment, slept, entries_of}
use Rattle.journal_model.specs.Cause.{IsAccepted, is_empty}
use Rattle.store_tables.specs.Records.{Records}
use Rattle.store_tables.specs.declared.row.EntryRow.{EntryRow}
use Rattle.store_tables.specs.declared.row.Progress.{Progress}
use Rattle.store_tables.specs.declared.row.SleepRow.{SleepRow}
use Rattle.store_tables.specs.declared.row.Write.{Write}
use Rattle.store_tables.specs.declared.row.Write.TheVariants.{AddEntry, SetProgress, CloseSleepsUntil}
use Rattle.store_model.specs.KeptRecords.{IsKept}
use Rattle.store_model.specs.Progress.{progress_of}
use Rattle.store_model.specs.Sleeps.{due_until, sleep_row}
use Rattle.store_model.specs.Steps.{grown, noted_into}
use Rattle.store_model.specs.Writes.{ends_sleep, invocation_writes, rows_added}
use Rattle.store_model.proofs.Following.{ticks}
use Rattle.store_model.proofs.States.{itself}
use Rattle.store_model.specs.Lookups.{ended_sleeps}
use Rattle.store_model.proofs.Sleeping.{answer_of_sleep}
use Rattle.due_laws.specs.AwakeNotes.{Noted}
use Rattle.due_laws.proofs.Noting.{noted_ticks}
use Rattle.store_arrivals.specs.ArrivalRows.{ends_of, flagged}
use Rattle.store_arrivals.specs.Groups.{Group, group_of, those_ended}
use Rattle.store_arrivals.specs.SleepEnds.{end_rows}
use Rattle.store_arrivals.specs.PreparedTicks.{AreOpen, arrivals_before, group_writes, next_place, ready_writes, until_writes}
use Rattle.store_arrivals.proofs.Ending.{found, id_of, rows_of_tick}

abbrev pub named : Text → Group → Bool
named id group = bytes_eq group.0 id

-- what holds of the groups of each id holds of all
all_by_id : (P : Group → Type 0) (groups : List Group) → ((id : Text) → AllByRecursion P (filter (named id) groups)) → AllByRecursion P groups
all_by_id P [] h = tt
all_by_id P (group ∷ groups) h = (own, all_by_id P groups (λ id. rest id (bytes_eq group.0 id) (h id)))
  where
    own : P group
    own = (subst (λ (b : Bool). AllByRecursion P (if b then group ∷ filter (named group.0) groups else filter (named group.0) groups)) (itself group.0) (h group.0)).0

    rest : (id : Text) (b : Bool) → AllByRecursion P (if b then group ∷ filter (named id) groups else filter (named id) groups) → AllByRecursion P (filter (named id) groups)
    rest id true all = all.1
    rest id false all = all

-- the sleeps of an open invocation that the tick ends, and there are some
pub record IsGroupOf (events : List Event) (now : ℕ) (group : Group) : Type 0 where
  pub opened : is_open events group.0 ≡ true
  pub completions : group.1 ≡ map (λ (sleep : ℕ × ℕ). sleep.1) (ended_sleeps events now group.0)
  pub many : length group.1 ≡ length (slept (entries_of events group.0) now)
  pub arrivals : ends_of group.1 ≡ slept (entries_of events group.0) now
  pub ends : ends_sleep events now group.0 ≡ true

as_many : (id : Text) (sleeps : List (ℕ × ℕ)) → length (map (λ (row : SleepRow). row.completion) (map (sleep_row id) sleeps)) ≡ length (map answer_of_sleep sleeps)
as_many id [] = refl
as_many id (sleep ∷ sleeps) = ap suc (as_many id sleeps)

ends_slept : (id : Text) (sleeps : List (ℕ × ℕ)) → ends_of (map (λ (row : SleepRow). row.completion) (map (sleep_row id) sleeps)) ≡ map answer_of_sleep sleeps
ends_slept id [] = refl
ends_slept id (sleep ∷ sleeps) = ap (λ (rest : List Arrival). answer_of_sleep sleep ∷ rest) (ends_slept id sleeps)

module _ (events : List Event) (now : ℕ) where
  abbrev over : Text → List (ℕ × ℕ)
  over id = filter (is_sleep_over (entries_of events id) now) (sorted_by_moment (sleeps_in (requests_in (entries_of events id))))

  group_is : (id : Text) (o : Bool) (sleeps : List (ℕ × ℕ)) → is_open events id ≡ o → over id ≡ sleeps
      → AllByRecursion (IsGroupOf events now) (group_of id (map (sleep_row id) (if o then sleeps else [])))
  group_is id false sleeps e f = tt
  group_is id true [] e f = tt
  group_is id true (sleep ∷ sleeps) e f = (
    record {
      opened = e;
      completions = map-map (λ (row : SleepRow). row.completion) (sleep_row id) (sleep ∷ sleeps)
          ∙ sym (ap₂ (λ (b : Bool) (xs : List (ℕ × ℕ)). map (λ (one : ℕ × ℕ). one.1) (if b then xs else [])) e f);
      many = as_many id (sleep ∷ sleeps) ∙ sym (ap (λ (xs : List (ℕ × ℕ)). length (map answer_of_sleep xs)) f);
      arrivals = ends_slept id (sleep ∷ sleeps) ∙ sym (ap (map answer_of_sleep) f);
      ends = ap₂ (λ (b : Bool) (xs : List (ℕ × ℕ)). b && not (is_empty (map answer_of_sleep xs))) e f;
    },
    tt,
  )

  pub all_groups : (r : Records) → IsAccepted events → IsKept events r → AllByRecursion (IsGroupOf events now) (those_ended now r)
  all_groups r accepted kept =
      all_by_id (IsGroupOf events now) (those_ended now r) (λ id.
      subst (AllByRecursion (IsGroupOf events now)) (sym (found events now r accepted kept id)) (group_is id (is_open events id) (over id) refl refl))

  pub all_open : (groups : List Group) → AllByRecursion (IsGroupOf events now) groups → AreOpen events groups
  all_open [] all = tt
  all_open (group ∷ groups) all = (all.0.opened, all_open groups all.1)

  -- ---- writes

  rows_are : (accepted : IsAccepted events) (group : Group) → IsGroupOf events now group
      → end_rows group.0 (next_place events group.0) (arrivals_before events group.0) group.1 ≡ rows_added events (Event.Tick now) group.0
  rows_are accepted group it = ap (end_rows group.0 (next_place events group.0) (arrivals_before events group.0)) it.completions ∙ sym (rows_of_tick events now group.0 accepted it.opened)

  -- how far its invocation is then
  far : IsAccepted events → (group : Group) → IsGroupOf events now group
      → progress_of (Event.Tick now ∷ events) group.0
      ≡ grown (length (slept (entries_of events group.0) now)) (length (slept (entries_of events group.0) now)) (flagged events group.0 (slept (entries_of events group.0) now) (progress_of events group.0))
  far accepted group it =
      let n = length (slept (entries_of events group.0) now) in
      ticks events now group.0 it.ends
      ∙ ap (λ (noted : Noted). grown n n (noted_into noted (progress_of events group.0))) (noted_ticks events now group.0 accepted it.opened)

  group_written : IsAccepted events → (group : Group) → IsGroupOf events now group → group_writes events group ≡ invocation_writes events (Event.Tick now) group.0
  group_written accepted group it =
      ap₂ (λ (rows : List EntryRow) (far : Progress). map AddEntry rows ++ SetProgress group.0 far ∷ []) (rows_are accepted group it)
      (ap₂ (λ (n : ℕ) (new : List Arrival). grown n n (flagged events group.0 new (progress_of events group.0))) it.many it.arrivals ∙ sym (far accepted group it))

  groups_written : IsAccepted events → (groups : List Group) → AllByRecursion (IsGroupOf events now) groups
      → flat_map (group_writes events) groups ≡ flat_map (invocation_writes events (Event.Tick now)) (map id_of groups)
  groups_written accepted [] all = refl
  groups_written accepted (group ∷ groups) all = ap₂ (λ (xs ys : List Write). xs ++ ys) (group_written accepted group all.0) (groups_written accepted groups all.1)

  pub all_written : IsAccepted events → (groups : List Group) → AllByRecursion (IsGroupOf events now) groups
      → until_writes events (due_until now) groups ≡ ready_writes events now (map id_of groups)
  all_written accepted [] all = refl
  all_written accepted (group ∷ groups) all =
      ap (λ (writes : List Write). writes ++ CloseSleepsUntil (due_until now) ∷ []) (groups_written accepted (group ∷ groups) all)
