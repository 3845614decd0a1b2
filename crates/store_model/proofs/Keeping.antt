-- The writes of an accepted event make of the records that are kept before it those that are kept after it.
use Rattle.std.proofs.Common.{◌≡◌, refl, sym, ap, subst, ◌∙◌, List, [], ◌∷◌, ◌++◌, map, filter, flat_map}
use Rattle.std.proofs.lemmas.List.Elements.{filter-append}
use Rattle.std.proofs.lemmas.List.Sorted.{IsPermutation-refl}
use Rattle.journal_model.specs.Notification.{Text}
use Rattle.journal_model.specs.Event.{Event}
use Rattle.journal_model.specs.Journal.{object_state}
use Rattle.journal_model.specs.Cause.{IsAccepted}
use Rattle.store_tables.specs.Records.{Records}
use Rattle.store_tables.specs.declared.row.InvocationRow.{InvocationRow}
use Rattle.store_tables.specs.declared.row.EntryRow.{EntryRow}
use Rattle.store_tables.specs.Questions.{journal_of}
use Rattle.store_model.specs.Progress.{progress_of}
use Rattle.store_model.specs.Sleeps.{sleeps_after}
use Rattle.store_model.specs.KeptRecords.{input_row, journal_rows, begun, begun_by, invocation_row, state_row, AreStates, IsKept}
use Rattle.store_model.specs.Writes.{rows_added, changed_by, object_changed, state_requests, KeptAtFirst, KeptAfter}
use Rattle.store_model.proofs.Writing.{stepped, states_written, applied-event}
use Rattle.store_model.proofs.Journals.{is_row_of, journals_kept}
use Rattle.store_model.proofs.Invocations.{rows_kept}
use Rattle.store_model.proofs.States.{ordered, states_kept, ascends}

pub kept_at_first : KeptAtFirst
kept_at_first = record { invocations = refl; journals = λ id. refl; states = λ object. (tt, IsPermutation-refl []); sleeps = refl }

-- what the writes make, as records
abbrev written : List Event → Event → Records → Records
written events event r = record {
  invocations = map (stepped (progress_of (event ∷ events)) (changed_by events event)) (r.invocations ++ map (invocation_row (event ∷ events)) (begun_by event));
  entries = (r.entries ++ map input_row (begun_by event)) ++ flat_map (rows_added events event) (changed_by events event);
  states = states_written (object_changed events event) (state_requests event) r.states;
  sleeps = sleeps_after events event r.sleeps;
}

module _ (events : List Event) (event : Event) (r : Records) (accepted : IsAccepted (event ∷ events)) (kept : IsKept events r) where
  invocations_after : (written events event r).invocations ≡ map (invocation_row (event ∷ events)) (begun (event ∷ events))
  invocations_after =
      ap (λ (rows : List InvocationRow). map (stepped (progress_of (event ∷ events)) (changed_by events event)) (rows ++ map (invocation_row (event ∷ events)) (begun_by event)))
      kept.invocations
      ∙ rows_kept events event accepted.0

  journals_after : (id : Text) → journal_of id (written events event r) ≡ journal_rows (event ∷ events) id
  journals_after id =
      filter-append (is_row_of id) (r.entries ++ map input_row (begun_by event)) (flat_map (rows_added events event) (changed_by events event))
      ∙ ap (λ (rows : List EntryRow). rows ++ filter (is_row_of id) (flat_map (rows_added events event) (changed_by events event)))
      (filter-append (is_row_of id) r.entries (map input_row (begun_by event))
      ∙ ap (λ (rows : List EntryRow). rows ++ filter (is_row_of id) (map input_row (begun_by event))) (kept.journals id))
      ∙ journals_kept events event id accepted

  states_after_it : (object : Text) → AreStates object (written events event r) (map (state_row object) (object_state (event ∷ events) object))
  states_after_it object = (
    ascends object (object_state (event ∷ events) object) (ordered (event ∷ events) object),
    states_kept events event object r.states ((kept.states object).1),
  )

  written_kept : IsKept (event ∷ events) (written events event r)
  written_kept = record { invocations = invocations_after; journals = journals_after; states = states_after_it; sleeps = ap (sleeps_after events event) kept.sleeps }

pub kept_after : KeptAfter
kept_after events event r accepted causes kept =
    subst (IsKept (event ∷ events)) (sym (applied-event events event r)) (written_kept events event r (causes, accepted) kept)
