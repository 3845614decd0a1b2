-- What holds of no entries, and of those to which an accepted event adds, holds of the entries of each invocation.
use Rattle.std.proofs.Common.{◌≡◌, refl, sym, ap, ap₂, subst, ◌∙◌, inl, Bool, true, false, ◌||◌, ◌&&◌, if◌then◌else◌, List, [], ◌∷◌, ◌++◌, None, is_some, bytes_eq}
use Rattle.std.proofs.lemmas.Slice.Eq.{bytes_eq-Decides}
use Rattle.journal_model.specs.Notification.{Text}
use Rattle.journal_model.specs.Request.{Request}
use Rattle.journal_model.specs.Event.{Event}
use Rattle.journal_model.specs.Journal.{Entry, is_of, is_tick, invoked_by, begins, frame_of, request_of_frame, invocation_begun, starting_state, is_open, entries_of, entries_from, entries_of_event, requests_in}
use Rattle.journal_model.specs.Cause.{IsAccepted}
use Rattle.journal_laws.proofs.ObjectState.{begin_when_new, no_entries, none_of, requests_if, requests_of_event}
use Rattle.store_model.proofs.Same.{both_same, same_entries, foreign_adds}
use Rattle.store_model.proofs.Journals.{added_to}

begins_none : (event : Event) (id : Text) → invoked_by event ≡ None → begins id event ≡ false
begins_none (Event.Invoke new) id e = cc
begins_none _ id e = refl

pub entries_now : (events : List Event) (event : Event) (id : Text) → invoked_by event ≡ None
    → entries_of (event ∷ events) id ≡ entries_of events id ++ added_to events event id
entries_now events event id e = ap (λ start. entries_from start (event ∷ events) id) same_start
  where
    same_start : starting_state (event ∷ events) id ≡ starting_state events id
    same_start = rw (begins_none event id e) refl

abbrev pub Grows : Text → (List Entry → Type 0) → Type 0
Grows id P = (events : List Event) (event : Event) → IsAccepted (event ∷ events) → invoked_by event ≡ None → P (entries_of events id)
    → P (entries_of events id ++ added_to events event id)

pub by_growth : (id : Text) (P : List Entry → Type 0) → P [] → Grows id P → (events : List Event) → IsAccepted events → P (entries_of events id)
by_growth id P none grows [] accepted = none
by_growth id P none grows (Event.Invoke new ∷ events) accepted = by_test (bytes_eq new.id id) refl (by_growth id P none grows events accepted.1)
  where
    by_test : (b : Bool) → bytes_eq new.id id ≡ b → P (entries_of events id) → P (entries_of (Event.Invoke new ∷ events) id)
    by_test true e before =
        let same : new.id ≡ id = (bytes_eq-Decides new.id id).0 e in
        let unknown : invocation_begun events id ≡ None =
        none_of (invocation_begun events id) (subst (λ (x : Text). is_some (invocation_begun events x) ≡ false) same (begin_when_new events new accepted.0)) in
        let start = starting_state (Event.Invoke new ∷ events) id in
        let nothing : entries_of (Event.Invoke new ∷ events) id ≡ [] =
        ap₂ (λ (xs ys : List Entry). xs ++ ys) (no_entries start events accepted.1 id unknown) (both_same (bytes_eq new.id id || false) []) in
        subst P (sym nothing) none
    by_test false e before =
        subst P (sym (same_entries events (Event.Invoke new) id (inl e) (foreign_adds (starting_state events id) events (Event.Invoke new) id (entries_of events id) e refl))) before
by_growth id P none grows (event ∷ events) accepted =
    subst P (sym (entries_now events event id refl)) (grows events event accepted refl (by_growth id P none grows events accepted.1))

-- the requests among what an event adds
pub requests_added : (events : List Event) (event : Event) (id : Text)
    → requests_in (added_to events event id) ≡ (if is_of id event || (is_tick event && is_open events id) then request_of_frame (frame_of event) else [])
requests_added events event id =
    requests_if (is_of id event || (is_tick event && is_open events id)) (entries_of_event (starting_state events id) (entries_of events id) event)
    ∙ ap (λ (requests : List Request). if is_of id event || (is_tick event && is_open events id) then requests else [])
    (requests_of_event (starting_state events id) (entries_of events id) event)
