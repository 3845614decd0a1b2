-- What is made ready of a tick keeps the records, also where nothing is to be written.
use Rattle.std.proofs.Common.{ℕ, ◌≡◌, refl, sym, ap, subst, ◌∙◌, Bool, true, false, ◌&&◌, not, if◌then◌else◌, cond, List, [], ◌∷◌, map, filter, Ordering, is_gt}
use Rattle.sqlite_keyed.specs.Lists.{insert_sorted, sort_by}
use Rattle.journal_model.specs.Notification.{Text}
use Rattle.journal_model.specs.Event.{Event}
use Rattle.journal_model.specs.Journal.{is_open, is_sleep_over, requests_in, sleeps_in, sorted_by_moment, entries_of}
use Rattle.journal_model.specs.Cause.{IsAccepted, is_empty}
use Rattle.store_tables.specs.Records.{Records, ends_by, is_sleep_of}
use Rattle.store_tables.specs.Orders.{sleep_cmp}
use Rattle.store_tables.specs.declared.row.SleepRow.{SleepRow}
use Rattle.store_model.specs.KeptRecords.{IsKept}
use Rattle.store_model.specs.Sleeps.{due_until, sleep_row}
use Rattle.store_model.specs.Writes.{AreEnding, ends_sleep}
use Rattle.store_model.proofs.States.{itself}
use Rattle.store_model.proofs.Ticking.{kept_in_any_order}
use Rattle.store_model.specs.Lookups.{due_sleeps}
use Rattle.store_model.proofs.DueSleeps.{ended_found}
use Rattle.store_model.proofs.Sleeping.{answer_of_sleep}
use Rattle.store_arrivals.specs.PreparedTicks.{ReadyKeeps}

-- where none passes, all that do not pass are all
filter_none : {A : Type 0} (p : A → Bool) (xs : List A) → filter p xs ≡ [] → filter (λ x. not (p x)) xs ≡ xs
filter_none p [] e = refl
filter_none {A} p (x ∷ xs) e = by_test (p x) e (filter_none p xs)
  where
    by_test : (b : Bool) → (if b then x ∷ filter p xs else filter p xs) ≡ [] → (filter p xs ≡ [] → filter (λ y. not (p y)) xs ≡ xs)
        → (if not b then x ∷ filter (λ y. not (p y)) xs else filter (λ y. not (p y)) xs) ≡ x ∷ xs
    by_test true e later = cc
    by_test false e later = ap (λ (ys : List A). x ∷ ys) (later e)

-- where no invocation has any there is none
none_at_all : (rows : List SleepRow) → ((id : Text) → filter (is_sleep_of id) rows ≡ []) → rows ≡ []
none_at_all [] none = refl
none_at_all (row ∷ rows) none =
    let e : row ∷ filter (is_sleep_of row.invocation) rows ≡ [] =
    sym (ap (λ (b : Bool). if b then row ∷ filter (is_sleep_of row.invocation) rows else filter (is_sleep_of row.invocation) rows) (itself row.invocation)) ∙ none row.invocation in
    absurd cc

some_sorted : {X : Type 0} (cmp : X → X → Ordering) (x : X) (ys : List X) → insert_sorted cmp x ys ≡ [] → ⊥
some_sorted cmp x [] e = absurd cc
some_sorted cmp x (y ∷ ys) e = by_order (is_gt (cmp x y)) e
  where
    by_order : (b : Bool) → cond b (y ∷ insert_sorted cmp x ys) (x ∷ y ∷ ys) ≡ [] → ⊥
    by_order true e = absurd cc
    by_order false e = absurd cc

none_sorted : {X : Type 0} (cmp : X → X → Ordering) (xs : List X) → sort_by cmp xs ≡ [] → xs ≡ []
none_sorted cmp [] e = refl
none_sorted cmp (x ∷ xs) e = absurd (some_sorted cmp x (sort_by cmp xs) e)

not_listed : (b : Bool) (id : Text) → ◌≡◌ {A = List Text} [] (if b then id ∷ [] else []) → b ≡ false
not_listed true id e = cc
not_listed false id e = refl

nothing_over : (o : Bool) (sleeps : List (ℕ × ℕ)) → (o && not (is_empty (map answer_of_sleep sleeps))) ≡ false → (if o then sleeps else []) ≡ []
nothing_over false sleeps e = refl
nothing_over true [] e = refl
nothing_over true (sleep ∷ sleeps) e = cc

none_due : (events : List Event) (now : ℕ) (r : Records) → IsAccepted events → IsKept events r → AreEnding events now [] → due_sleeps now r ≡ []
none_due events now r accepted kept ending =
    none_sorted sleep_cmp (due_sleeps now r) (none_at_all (sort_by sleep_cmp (due_sleeps now r)) (λ id.
    (ended_found events now r accepted kept).ended id
    ∙ ap (map (sleep_row id)) (nothing_over (is_open events id) (filter (is_sleep_over (entries_of events id) now) (sorted_by_moment (sleeps_in (requests_in (entries_of events id)))))
    (not_listed (ends_sleep events now id) id (ending id)))))

as_it_is : (events : List Event) (r : Records) (sleeps : List SleepRow) → sleeps ≡ r.sleeps → IsKept events (record r { sleeps = sleeps }) → IsKept events r
as_it_is events r sleeps same kept = record { invocations = kept.invocations; journals = kept.journals; states = kept.states; sleeps = sym same ∙ kept.sleeps }

pub ready_keeps : ReadyKeeps
ready_keeps events now (id ∷ ids) r accepted none ending kept = kept_in_any_order events now (id ∷ ids) r accepted none ending kept
ready_keeps events now [] r accepted none ending kept =
    as_it_is (Event.Tick now ∷ events) r (filter (λ (s : SleepRow). not (ends_by (due_until now) s)) r.sleeps)
    (filter_none (ends_by (due_until now)) r.sleeps (none_due events now r accepted kept ending)) (kept_in_any_order events now [] r accepted none ending kept)
