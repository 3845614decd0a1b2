-- What is recorded of an invocation is read off its own events and the ticks alone.
use Rattle.std.proofs.Common.{length, drop, nat_le, ℕ, ◌+◌, zero-add, ◌≡◌, refl, sym, ap, ap₂, ◌∙◌, Bool, true, false, ◌||◌, ◌&&◌, not, if◌then◌else◌, List, [], ◌∷◌, ◌++◌, append-nil, filter, filter_map, Option, Some, None, is_some, option_map, unwrap_or, bytes_eq}
use Rattle.std.specs.List.{list_any}
use Rattle.journal_model.specs.Notification.{Arrival, Text}
use Rattle.journal_model.specs.State.{StateMap}
use Rattle.journal_model.specs.declared.invocation.NewInvocation.{NewInvocation}
use Rattle.journal_model.specs.Event.{Suspension, Frame, Event}
use Rattle.journal_model.specs.Headline.{IsIsolated}
use Rattle.journal_model.specs.Attempt.{is_none, is_woken, arrivals_within, is_due, Piece, ends_live, live_attempt, journal_pieces, later_pieces, acknowledged, event_pieces, input_from, input_pieces, input_bytes, handed_after, handed_from, bytes_handed, suspension_in, or_before, suspension_of, begins_attempt, attempts_begun, bytes_asked, closes_input, is_input_closed}
use Rattle.journal_model.specs.Start.{is_some_entry, moment_begun, begun_since_entry, attempts_since_entry}
use Rattle.journal_model.specs.Journal.{entries_of, starting_state, Entry, entries_added, arrivals_in, version_of, is_of, is_tick, view_of, invoked_by, invocation_begun, closes, frame_of, frames_of, is_open, entries_of_event, entries_from}

-- a list filtered by one of two tests, and then by the first
filter-either : {A : Type 0} (p q : A → Bool) (xs : List A) → filter p (filter (λ x. p x || q x) xs) ≡ filter p xs
filter-either p q [] = refl
filter-either {A} p q (x ∷ xs) = by_cases (p x) refl (q x) (filter-either p q xs)
  where
    by_cases : (a : Bool) → p x ≡ a → (b : Bool) → filter p (filter (λ x. p x || q x) xs) ≡ filter p xs
        → filter p (if a || b then x ∷ filter (λ x. p x || q x) xs else filter (λ x. p x || q x) xs) ≡ (if a then x ∷ filter p xs else filter p xs)
    by_cases true e b h = rw e (ap (λ (ys : List A). x ∷ ys) h)
    by_cases false e true h = rw e h
    by_cases false e false h = h

module _ (id : Text) where
  pub frames_of-view : (events : List Event) → frames_of (view_of id events) id ≡ frames_of events id
  frames_of-view events = ap (λ (some : List Event). filter_map frame_of some) (filter-either (is_of id) is_tick events)

  -- an event that is no invocation's begin changes nothing of how the invocation was begun
  begun-skipped : (b : Bool) (event : Event) (events : List Event) → invoked_by event ≡ None
      → invocation_begun (if b then event ∷ events else events) id ≡ invocation_begun events id
  begun-skipped true event events e = rw e refl
  begun-skipped false event events e = refl

  pub invocation_begun-view : (events : List Event) → invocation_begun (view_of id events) id ≡ invocation_begun events id
  invocation_begun-view [] = refl
  invocation_begun-view (Event.Invoke new ∷ events) = by_cases (bytes_eq new.id id) refl (invocation_begun-view events)
    where
      by_cases : (b : Bool) → bytes_eq new.id id ≡ b → invocation_begun (view_of id events) id ≡ invocation_begun events id
          → invocation_begun (if b || false then Event.Invoke new ∷ view_of id events else view_of id events) id
          ≡ (if b then Some new else invocation_begun events id)
      by_cases true e h = rw e refl
      by_cases false e h = h
  invocation_begun-view (event ∷ events) =
      begun-skipped (is_of id event || is_tick event) event (view_of id events) refl ∙ invocation_begun-view events

  pub is_open-view : (events : List Event) → is_open (view_of id events) id ≡ is_open events id
  is_open-view events =
      ap₂ (λ (new : Option NewInvocation) (frames : List Frame). is_some new && not (list_any (closes (unwrap_or (option_map (λ (begun : NewInvocation). begun.version) new) 0)) frames))
      (invocation_begun-view events) (frames_of-view events)

  pub entries_from-view : (start : StateMap) (events : List Event) → entries_from start (view_of id events) id ≡ entries_from start events id
  entries_from-view start [] = refl
  entries_from-view start (event ∷ events) =
      by_cases (is_of id event) refl (is_tick event) refl (entries_from-view start events) (is_open-view events)
    where
      by_cases : (a : Bool) → is_of id event ≡ a → (b : Bool) → is_tick event ≡ b
          → entries_from start (view_of id events) id ≡ entries_from start events id → is_open (view_of id events) id ≡ is_open events id
          → entries_from start (if a || b then event ∷ view_of id events else view_of id events) id
          ≡ entries_from start events id ++ (if a || (b && is_open events id) then entries_of_event start (entries_from start events id) event else [])
      by_cases true e b f h k = rw (e, h) refl
      by_cases false e true f h k = rw (e, f, h, k) refl
      by_cases false e false f h k = h ∙ sym (append-nil (entries_from start events id))

  pub version_of-view : (events : List Event) → version_of (view_of id events) id ≡ version_of events id
  version_of-view events = ap (λ (new : Option NewInvocation). unwrap_or (option_map (λ (begun : NewInvocation). begun.version) new) 0) (invocation_begun-view events)

  -- an event outside the view begins no attempt, ends none, hands out nothing and suspends nothing
  pub is_of-begins : (event : Event) → is_of id event ≡ false → begins_attempt id event ≡ false
  is_of-begins (Event.Begin other now) e = e
  is_of-begins _ e = refl

  is_of-asked : (event : Event) → is_of id event ≡ false → bytes_asked id event ≡ None
  is_of-asked (Event.Feed other attempt most) e = rw e refl
  is_of-asked _ e = refl

  attempts_begun-view : (events : List Event) → attempts_begun (view_of id events) id ≡ attempts_begun events id
  attempts_begun-view [] = refl
  attempts_begun-view (event ∷ events) = by_cases (is_of id event) refl (is_tick event) (attempts_begun-view events)
    where
      by_cases : (a : Bool) → is_of id event ≡ a → (b : Bool) → attempts_begun (view_of id events) id ≡ attempts_begun events id
          → attempts_begun (if a || b then event ∷ view_of id events else view_of id events) id ≡ attempts_begun (event ∷ events) id
      by_cases true e b h = ap (λ (n : ℕ). (if begins_attempt id event then 1 else 0) + n) h
      by_cases false e true h = ap (λ (n : ℕ). (if begins_attempt id event then 1 else 0) + n) h
      by_cases false e false h = rw (is_of-begins event e) (h ∙ sym (zero-add (attempts_begun events id)))

  live_attempt-view : (events : List Event) → live_attempt (view_of id events) id ≡ live_attempt events id
  live_attempt-view [] = refl
  live_attempt-view (event ∷ events) = by_cases (is_of id event) refl (is_tick event) (attempts_begun-view events) (live_attempt-view events)
    where
      by_cases : (a : Bool) → is_of id event ≡ a → (b : Bool) → attempts_begun (view_of id events) id ≡ attempts_begun events id
          → live_attempt (view_of id events) id ≡ live_attempt events id
          → live_attempt (if a || b then event ∷ view_of id events else view_of id events) id ≡ live_attempt (event ∷ events) id
      by_cases true e b g h =
          ap₂ (λ (n : ℕ) (o : Option ℕ). if begins_attempt id event then Some ((if begins_attempt id event then 1 else 0) + n) else (if is_of id event && ends_live event then None else o)) g h
      by_cases false e true g h =
          ap₂ (λ (n : ℕ) (o : Option ℕ). if begins_attempt id event then Some ((if begins_attempt id event then 1 else 0) + n) else (if is_of id event && ends_live event then None else o)) g h
      by_cases false e false g h = rw (is_of-begins event e, e) h

  event_pieces-same : (start : StateMap) (a b : List Event) (event : Event) (entries : List Entry) → is_open a id ≡ is_open b id → version_of a id ≡ version_of b id
      → event_pieces start a id event entries ≡ event_pieces start b id event entries
  event_pieces-same start a b event entries opened versions =
      ap₂ (λ (is_so : Bool) (version : ℕ).
      later_pieces (entries ++ (if is_of id event || (is_tick event && is_so) then entries_of_event start entries event else []))
      (acknowledged version id event)
      (arrivals_in (if is_of id event || (is_tick event && is_so) then entries_of_event start entries event else [])))
      opened versions

  -- an event outside the view brings no frames
  no_pieces : (start : StateMap) (events : List Event) (event : Event) (entries : List Entry) → is_of id event ≡ false → is_tick event ≡ false
      → event_pieces start events id event entries ≡ []
  no_pieces start events event entries e f =
      let quiet : entries_added start events id event entries ≡ [] = rw (e, f) refl in
      ap₂ (λ (o : Option ℕ) (added : List Entry). later_pieces (entries ++ added) o (arrivals_in added)) (not_acknowledged event e) quiet
    where
      not_acknowledged : (event : Event) → is_of id event ≡ false → acknowledged (version_of events id) id event ≡ None
      not_acknowledged (Event.Move other attempt (Frame.RunOutcome completion value true)) e = by_test (nat_le 7 (version_of events id))
        where
          by_test : (b : Bool) → (if b && bytes_eq other id then Some completion else None) ≡ None
          by_test true = rw e refl
          by_test false = refl
      not_acknowledged _ e = refl

  input_from-view : (start : StateMap) (events : List Event) → input_from start (view_of id events) id ≡ input_from start events id
  input_from-view start [] = refl
  input_from-view start (event ∷ events) = by_cases (is_of id event) refl (is_tick event) refl (input_from-view start events)
    where
      kept : input_from start (view_of id events) id ≡ input_from start events id → input_from start (event ∷ view_of id events) id ≡ input_from start (event ∷ events) id
      kept h =
          ap₂ (λ (journal more : List Piece). if begins_attempt id event then journal else more)
          (ap₂ journal_pieces (invocation_begun-view events) (entries_from-view start events))
          (ap₂ (λ (before more : List Piece). before ++ more) h
          (ap (event_pieces start (view_of id events) id event) (entries_from-view start events)
          ∙ event_pieces-same start (view_of id events) events event (entries_from start events id) (is_open-view events) (version_of-view events)))

      by_cases : (a : Bool) → is_of id event ≡ a → (b : Bool) → is_tick event ≡ b → input_from start (view_of id events) id ≡ input_from start events id
          → input_from start (if a || b then event ∷ view_of id events else view_of id events) id ≡ input_from start (event ∷ events) id
      by_cases true e b f h = kept h
      by_cases false e true f h = kept h
      by_cases false e false f h =
          rw (is_of-begins event e)
          (h ∙ sym (ap (λ (more : List Piece). input_from start events id ++ more) (no_pieces start events event (entries_from start events id) e f) ∙ append-nil (input_from start events id)))

  handed_from-view : (start : StateMap) (events : List Event) → handed_from start (view_of id events) id ≡ handed_from start events id
  handed_from-view start [] = refl
  handed_from-view start (event ∷ events) = by_cases (is_of id event) refl (is_tick event) (handed_from-view start events)
    where
      kept : handed_from start (view_of id events) id ≡ handed_from start events id → handed_from start (event ∷ view_of id events) id ≡ handed_from start (event ∷ events) id
      kept h =
          ap₂ (λ (handed there : ℕ). if begins_attempt id event then 0 else handed_after (bytes_asked id event) handed there) h
          (ap (λ (pieces : List Piece). length (input_bytes pieces)) (input_from-view start events))

      by_cases : (a : Bool) → is_of id event ≡ a → (b : Bool) → handed_from start (view_of id events) id ≡ handed_from start events id
          → handed_from start (if a || b then event ∷ view_of id events else view_of id events) id ≡ handed_from start (event ∷ events) id
      by_cases true e b h = kept h
      by_cases false e true h = kept h
      by_cases false e false h = rw (is_of-begins event e, is_of-asked event e) h

  pub suspension_of-view : (events : List Event) → suspension_of (view_of id events) id ≡ suspension_of events id
  suspension_of-view [] = refl
  suspension_of-view (event ∷ events) = by_cases (is_of id event) refl (is_tick event) (suspension_of-view events)
    where
      no_suspension : (event : Event) → is_of id event ≡ false → suspension_in id event ≡ None
      no_suspension (Event.Move other attempt (Frame.Suspend suspension)) e = rw e refl
      no_suspension _ e = refl

      kept : suspension_of (view_of id events) id ≡ suspension_of events id → suspension_of (event ∷ view_of id events) id ≡ suspension_of (event ∷ events) id
      kept h = ap (λ (o : Option Suspension). if begins_attempt id event then None else or_before (suspension_in id event) o) h

      by_cases : (a : Bool) → is_of id event ≡ a → (b : Bool) → suspension_of (view_of id events) id ≡ suspension_of events id
          → suspension_of (if a || b then event ∷ view_of id events else view_of id events) id ≡ suspension_of (event ∷ events) id
      by_cases true e b h = kept h
      by_cases false e true h = kept h
      by_cases false e false h = rw (is_of-begins event e, no_suspension event e) h

  is_input_closed-view : (events : List Event) → is_input_closed (view_of id events) id ≡ is_input_closed events id
  is_input_closed-view [] = refl
  is_input_closed-view (event ∷ events) = by_cases (is_of id event) refl (is_tick event) (is_input_closed-view events)
    where
      kept : is_input_closed (view_of id events) id ≡ is_input_closed events id → is_input_closed (event ∷ view_of id events) id ≡ is_input_closed (event ∷ events) id
      kept h = ap (λ (b : Bool). if begins_attempt id event then false else ((is_of id event && closes_input event) || b)) h

      by_cases : (a : Bool) → is_of id event ≡ a → (b : Bool) → is_input_closed (view_of id events) id ≡ is_input_closed events id
          → is_input_closed (if a || b then event ∷ view_of id events else view_of id events) id ≡ is_input_closed (event ∷ events) id
      by_cases true e b h = kept h
      by_cases false e true h = kept h
      by_cases false e false h = rw (is_of-begins event e, e) h

  begun_since_entry-view : (start : StateMap) (events : List Event) → begun_since_entry start (view_of id events) id ≡ begun_since_entry start events id
  begun_since_entry-view start [] = refl
  begun_since_entry-view start (event ∷ events) = by_cases (is_of id event) refl (is_tick event) refl (begun_since_entry-view start events)
    where
      added : entries_added start (view_of id events) id event (entries_from start (view_of id events) id) ≡ entries_added start events id event (entries_from start events id)
      added =
          ap₂ (λ (opened : Bool) (entries : List Entry). if is_of id event || (is_tick event && opened) then entries_of_event start entries event else [])
          (is_open-view events) (entries_from-view start events)

      kept : begun_since_entry start (view_of id events) id ≡ begun_since_entry start events id → begun_since_entry start (event ∷ view_of id events) id ≡ begun_since_entry start (event ∷ events) id
      kept h = ap₂ (λ (entries : List Entry) (moments : List ℕ). if is_some_entry entries then [] else moments ++ (if is_of id event then moment_begun event else [])) added h

      by_cases : (a : Bool) → is_of id event ≡ a → (b : Bool) → is_tick event ≡ b → begun_since_entry start (view_of id events) id ≡ begun_since_entry start events id
          → begun_since_entry start (if a || b then event ∷ view_of id events else view_of id events) id ≡ begun_since_entry start (event ∷ events) id
      by_cases true e b f h = kept h
      by_cases false e true f h = kept h
      by_cases false e false f h = rw (e, f) (h ∙ sym (append-nil (begun_since_entry start events id)))

  module _ (events others : List Event) (views : view_of id events ≡ view_of id others) (starts : starting_state events id ≡ starting_state others id) where
    -- what is the same of a view is the same of two lists with one view
    carried : {A : Type 0} (read : StateMap → List Event → A) → ((start : StateMap) (some : List Event) → read start (view_of id some) ≡ read start some)
        → read (starting_state events id) events ≡ read (starting_state others id) others
    carried read same =
        sym (same (starting_state events id) events)
        ∙ ap₂ read starts views
        ∙ same (starting_state others id) others

    same_entries : entries_of events id ≡ entries_of others id
    same_entries = carried (λ start some. entries_from start some id) entries_from-view

    same_open : is_open events id ≡ is_open others id
    same_open = carried (λ start some. is_open some id) (λ start some. is_open-view some)

    same_due : is_due events id ≡ is_due others id
    same_due =
        ap₂ (λ (a b : Bool). a && b) same_open
        (ap₂ (λ (a b : Bool). a && b) (ap is_none (carried (λ start some. live_attempt some id) (λ start some. live_attempt-view some)))
        (ap₂ is_woken
        (ap₂ (λ (n : ℕ) (arrivals : List Arrival). drop n arrivals)
        (ap₂ arrivals_within (carried (λ start some. input_from start some id) input_from-view) (carried (λ start some. handed_from start some id) handed_from-view))
        (ap arrivals_in same_entries))
        (carried (λ start some. suspension_of some id) (λ start some. suspension_of-view some))))

-- what two lists of events tell of an invocation and of its last attempt is the same
pub record IsToldAlike (events others : List Event) (id : Text) : Type 0 where
  pub begun : invocation_begun events id ≡ invocation_begun others id
  pub openness : is_open events id ≡ is_open others id
  pub start : starting_state events id ≡ starting_state others id
  pub entries : entries_of events id ≡ entries_of others id
  pub attempts : attempts_begun events id ≡ attempts_begun others id
  pub live : live_attempt events id ≡ live_attempt others id
  pub input : input_pieces events id ≡ input_pieces others id
  pub handed : bytes_handed events id ≡ bytes_handed others id
  pub input_closed : is_input_closed events id ≡ is_input_closed others id
  pub moments : attempts_since_entry events id ≡ attempts_since_entry others id

pub told_alike : (events others : List Event) (id : Text) → view_of id events ≡ view_of id others → starting_state events id ≡ starting_state others id → IsToldAlike events others id
told_alike events others id views starts = record {
  begun = carried id events others views starts (λ start some. invocation_begun some id) (λ start some. invocation_begun-view id some);
  openness = same_open id events others views starts;
  start = starts;
  entries = same_entries id events others views starts;
  attempts = carried id events others views starts (λ start some. attempts_begun some id) (λ start some. attempts_begun-view id some);
  live = carried id events others views starts (λ start some. live_attempt some id) (λ start some. live_attempt-view id some);
  input = carried id events others views starts (λ start some. input_from start some id) (input_from-view id);
  handed = carried id events others views starts (λ start some. handed_from start some id) (handed_from-view id);
  input_closed = carried id events others views starts (λ start some. is_input_closed some id) (λ start some. is_input_closed-view id some);
  moments = carried id events others views starts (λ start some. begun_since_entry start some id) (begun_since_entry-view id);
}

pub isolated : (events others : List Event) (id : Text) → IsIsolated events others id
isolated events others id views starts = (same_entries id events others views starts, same_open id events others views starts, same_due id events others views starts)
