-- Each accepted event adds entries behind those before.
use Rattle.std.proofs.Common.{◌≡◌, refl, sym, ap, ◌∙◌, Bool, true, false, List, [], ◌∷◌, ◌++◌, append_assoc, append-nil, None}
use Rattle.journal_model.specs.Journal.{Entry, begins, entries_of, invocation_begun, starting_state}
use Rattle.journal_laws.proofs.ObjectState.{no_entries}
use Rattle.input_laws.proofs.Events.{added_by, entries_first, entries_now, not_begun}
use Rattle.schedule_laws.specs.EntryPlaces.{EntriesKeepPlaces}

none_in_front : {A : Type 0} (xs ys : List A) → xs ++ ys ≡ [] → xs ≡ []
none_in_front [] ys e = refl
none_in_front (x ∷ xs) ys e = cc

pub entries_keep : EntriesKeepPlaces
entries_keep events [] id accepted = ([], sym (append-nil (entries_of events id)))
entries_keep events (event ∷ more) id accepted = by_begin (begins id event) refl (entries_keep events more id accepted.1)
  where
    by_begin : (b : Bool) → begins id event ≡ b → (rest : List Entry) × (entries_of (more ++ events) id ≡ entries_of events id ++ rest)
        → (rest : List Entry) × (entries_of (event ∷ (more ++ events)) id ≡ entries_of events id ++ rest)
    by_begin true e before =
        let unborn : invocation_begun (more ++ events) id ≡ None = not_begun event (more ++ events) id accepted e in
        let empty : entries_of (more ++ events) id ≡ [] = no_entries (starting_state (more ++ events) id) (more ++ events) accepted.1 id unborn in
        let none : entries_of events id ≡ [] = none_in_front (entries_of events id) before.0 (sym before.1 ∙ empty) in
        ([], entries_first event (more ++ events) id accepted e ∙ sym (append-nil (entries_of events id) ∙ none))
    by_begin false e before =
        let added = added_by (more ++ events) id event in (
          before.0 ++ added,
          entries_now event (more ++ events) id e ∙ ap (λ (entries : List Entry). entries ++ added) before.1 ∙ append_assoc (entries_of events id) before.0 added,
        )
