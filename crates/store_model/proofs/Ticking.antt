-- What a tick writes of several invocations may be written in any order.
use Rattle.std.proofs.Common.{ℕ, ◌+◌, ◌≡◌, refl, sym, ap, ap₂, subst, ◌∙◌, Bool, true, false, ◌||◌, ◌&&◌, not, if◌then◌else◌, List, [], ◌∷◌, ◌++◌, append-nil, length, map, filter, flat_map, bytes_eq}
use Rattle.std.specs.List.{list_any}
use Rattle.std.proofs.lemmas.List.Elements.{filter-append}
use Rattle.sqlite_keyed.proofs.ListLemmas.{all_weaker, filter_same, flat_map-filter, flat_map_same_on, map-map}
use Rattle.journal_model.specs.Notification.{Text}
use Rattle.journal_model.specs.declared.invocation.NewInvocation.{NewInvocation}
use Rattle.journal_model.specs.Event.{Event}
use Rattle.journal_model.specs.Journal.{is_open, slept, starting_state, entries_of, entries_of_event}
use Rattle.journal_model.specs.Cause.{is_empty, IsAccepted}
use Rattle.store_tables.specs.Records.{Records, applied_all}
use Rattle.store_tables.specs.declared.row.EntryRow.{EntryRow}
use Rattle.store_tables.specs.declared.row.Progress.{Progress}
use Rattle.store_model.specs.Progress.{progress_of}
use Rattle.store_model.specs.Sleeps.{sleeps_after}
use Rattle.store_model.specs.KeptRecords.{journal_rows, begun, invocation_row, IsKept}
use Rattle.store_model.specs.Writes.{AreEnding, KeptInAnyOrder, changed_by, ends_sleep, invocation_writes, rows_added, sleep_writes, tick_writes}
use Rattle.store_model.proofs.Invocations.{WasBegun, all_begun, among_chosen, rows_kept, stepped_is}
use Rattle.store_model.proofs.Journals.{added_to, is_row_of, journal_grows, rows_behind, rows_of-one, rows_slept}
use Rattle.store_model.proofs.Lists.{map_on}
use Rattle.store_model.proofs.States.{either_way, itself}
use Rattle.store_model.proofs.Writing.{applied-append, applied-each, applied-sleeps, stepped}

any_listed : {A : Type 0} (p : A → Bool) (xs : List A) → list_any p xs ≡ not (is_empty (filter p xs))
any_listed p [] = refl
any_listed {A} p (x ∷ xs) = by_test (p x) (any_listed p xs)
  where
    by_test : (b : Bool) → list_any p xs ≡ not (is_empty (filter p xs)) → (b || list_any p xs) ≡ not (is_empty (if b then x ∷ filter p xs else filter p xs))
    by_test true h = refl
    by_test false h = h

filter-each : {A B : Type 0} (p : B → Bool) (f : A → List B) (xs : List A) → filter p (flat_map f xs) ≡ flat_map (λ x. filter p (f x)) xs
filter-each p f [] = refl
filter-each {A} {B} p f (x ∷ xs) = filter-append p (f x) (flat_map f xs) ∙ ap (λ (rest : List B). filter p (f x) ++ rest) (filter-each p f xs)

is_one : {A : Type 0} (b : Bool) (x : A) → not (is_empty (if b then x ∷ [] else [])) ≡ b
is_one true x = refl
is_one false x = refl

module _ (events : List Event) (now : ℕ) (ids : List Text) (r : Records) (accepted : IsAccepted (Event.Tick now ∷ events)) (ending : AreEnding events now ids) (kept : IsKept events r) where
  abbrev after : Text → Progress
  after = progress_of (Event.Tick now ∷ events)

  -- ---- journals

  abbrev own_rows : Text → Text → List EntryRow
  own_rows id x = if bytes_eq x id then rows_added events (Event.Tick now) x else []

  of_ending : (id : Text) (b : Bool) → flat_map (own_rows id) (if b then id ∷ [] else []) ≡ (if b then rows_added events (Event.Tick now) id else [])
  of_ending id true = append-nil (own_rows id id) ∙ ap (λ (b : Bool). if b then rows_added events (Event.Tick now) id else []) (itself id)
  of_ending id false = refl

  rows_written : (id : Text) → filter (is_row_of id) (flat_map (rows_added events (Event.Tick now)) ids) ≡ rows_behind events (Event.Tick now) id (added_to events (Event.Tick now) id)
  rows_written id =
      filter-each (is_row_of id) (rows_added events (Event.Tick now)) ids
      ∙ flat_map_same_on (λ x. filter (is_row_of id) (rows_added events (Event.Tick now) x)) (own_rows id)
      (λ x. rows_of-one x id (entries_of events x) (1 + length (entries_of events x)) (entries_of_event (starting_state events x) (entries_of events x) (Event.Tick now))) ids
      ∙ sym (flat_map-filter (own_rows id) (λ x. bytes_eq x id) (λ x e. ap (λ (b : Bool). if b then rows_added events (Event.Tick now) x else []) e) ids)
      ∙ ap (flat_map (own_rows id)) (ending id)
      ∙ of_ending id (ends_sleep events now id)
      ∙ rows_slept true (is_open events id) (slept (entries_of events id) now) (rows_behind events (Event.Tick now) id) refl (λ opened. refl)

  journals_after : (id : Text) → filter (is_row_of id) (r.entries ++ flat_map (rows_added events (Event.Tick now)) ids) ≡ journal_rows (Event.Tick now ∷ events) id
  journals_after id =
      filter-append (is_row_of id) r.entries (flat_map (rows_added events (Event.Tick now)) ids)
      ∙ ap₂ (λ (xs ys : List EntryRow). xs ++ ys) (kept.journals id) (rows_written id)
      ∙ sym (journal_grows events (Event.Tick now) id accepted refl)

  -- ---- invocations

  is_listed : (x : Text) → list_any (bytes_eq x) ids ≡ ends_sleep events now x
  is_listed x =
      any_listed (bytes_eq x) ids
      ∙ ap (λ (found : List Text). not (is_empty found)) (filter_same (bytes_eq x) (λ y. bytes_eq y x) (λ y. either_way x y) ids ∙ ending x)
      ∙ is_one (ends_sleep events now x) x

  same_listed : (new : NewInvocation) → WasBegun events new → list_any (bytes_eq new.id) ids ≡ list_any (bytes_eq new.id) (changed_by events (Event.Tick now))
  same_listed new is =
      is_listed new.id
      ∙ sym (among_chosen (ends_sleep events now) new.id events ∙ ap (λ (b : Bool). b && ends_sleep events now new.id) is)

  row_after : (new : NewInvocation) → WasBegun events new
      → stepped after ids (invocation_row events new) ≡ stepped after (changed_by events (Event.Tick now)) (invocation_row events new)
  row_after new is =
      stepped_is after ids (invocation_row events new)
      ∙ ap (λ (b : Bool). if b then record (invocation_row events new) { progress = after new.id } else invocation_row events new) (same_listed new is)
      ∙ sym (stepped_is after (changed_by events (Event.Tick now)) (invocation_row events new))

  invocations_after : map (stepped after ids) r.invocations ≡ map (invocation_row (Event.Tick now ∷ events)) (begun (Event.Tick now ∷ events))
  invocations_after =
      let olds = map (invocation_row events) (begun events) in
      let step = stepped after (changed_by events (Event.Tick now)) in
      ap (map (stepped after ids)) kept.invocations
      ∙ map-map (stepped after ids) (invocation_row events) (begun events)
      ∙ map_on (λ new. stepped after ids (invocation_row events new)) (λ new. step (invocation_row events new)) (begun events)
      (all_weaker (WasBegun events) (λ new. stepped after ids (invocation_row events new) ≡ step (invocation_row events new)) row_after (begun events) (all_begun events))
      ∙ sym (map-map step (invocation_row events) (begun events))
      ∙ ap (map step) (sym (append-nil olds))
      ∙ rows_kept events (Event.Tick now) accepted.0

  -- ---- all

  abbrev written : Records
  written = record r {
    invocations = map (stepped after ids) r.invocations;
    entries = r.entries ++ flat_map (rows_added events (Event.Tick now)) ids;
    sleeps = sleeps_after events (Event.Tick now) r.sleeps;
  }

  applied-tick : applied_all (tick_writes events now ids) r ≡ written
  applied-tick =
      applied-append (flat_map (invocation_writes events (Event.Tick now)) ids) (sleep_writes events (Event.Tick now)) r
      ∙ ap (applied_all (sleep_writes events (Event.Tick now))) (applied-each (rows_added events (Event.Tick now)) after ids r)
      ∙ applied-sleeps events (Event.Tick now) (record r {
        invocations = map (stepped after ids) r.invocations;
        entries = r.entries ++ flat_map (rows_added events (Event.Tick now)) ids;
      })

  written_kept : IsKept (Event.Tick now ∷ events) written
  written_kept = record {
    invocations = invocations_after;
    journals = journals_after;
    states = kept.states;
    sleeps = ap (sleeps_after events (Event.Tick now)) kept.sleeps;
  }

pub kept_in_any_order : KeptInAnyOrder
kept_in_any_order events now ids r accepted causes ending kept =
    subst (IsKept (Event.Tick now ∷ events)) (sym (applied-tick events now ids r (causes, accepted) ending kept)) (written_kept events now ids r (causes, accepted) ending kept)
