-- An accepted event adds to the kept journals what it adds to the journals.
use Rattle.std.proofs.Common.{ℕ, suc, ◌+◌, add-zero, arith, ◌≡◌, refl, sym, ap, ap₂, subst, ◌∙◌, inl, inr, true≢false, Bool, true, false, ◌||◌, ◌&&◌, not, if◌then◌else◌, List, [], ◌∷◌, ◌++◌, append-nil, append_assoc, length, map, filter, flat_map, Option, Some, None, is_some, bytes_eq}
use Rattle.std.proofs.lemmas.List.{map-append}
use Rattle.std.proofs.lemmas.List.Elements.{filter-append}
use Rattle.std.proofs.lemmas.Grind.{flat_map-append}
use Rattle.std.proofs.lemmas.Slice.Eq.{bytes_eq-Decides}
use Rattle.journal_model.specs.Notification.{Text, Arrival}
use Rattle.journal_model.specs.declared.invocation.NewInvocation.{NewInvocation}
use Rattle.journal_model.specs.Event.{Frame, Event}
use Rattle.journal_model.specs.Journal.{Entry, Recorded, Arrived, is_of, is_tick, invoked_by, invocation_of, begins, invocation_begun, starting_state, is_open, slept, entries_of, entries_from, entries_of_event, entries_added}
use Rattle.journal_model.specs.Cause.{is_empty, IsAccepted}
use Rattle.journal_laws.proofs.ObjectState.{begin_when_new, begun_before, no_entries, none_of}
use Rattle.store_tables.specs.declared.row.EntryRow.{EntryRow}
use Rattle.store_model.specs.KeptRecords.{entry_row, rows_from, input_row, rows_of_journal, journal_rows, begun, begun_by}
use Rattle.store_model.specs.Writes.{rows_added, ends_sleep, ids_of_frame, changed_by}
use Rattle.due_laws.specs.Awake.{is_still}
use Rattle.store_model.proofs.Same.{both_same, same_begun, same_entries, foreign_adds, nothing_added}

one_behind : (a n : ℕ) → (a + 1) + n ≡ a + suc n
one_behind a n = omega arith

-- rows of entries and of those behind them
pub rows_from-append : (id : Text) (before : List Entry) (place : ℕ) (entries more : List Entry)
    → rows_from id before place (entries ++ more) ≡ rows_from id before place entries ++ rows_from id (before ++ entries) (place + length entries) more
rows_from-append id before place [] more = λ i. rows_from id (sym (append-nil before) i) (sym (add-zero place) i) more
rows_from-append id before place (entry ∷ entries) more =
    ap (λ (rows : List EntryRow). entry_row id before place entry ∷ rows)
    (rows_from-append id (before ++ entry ∷ []) (place + 1) entries more
    ∙ ap₂ (λ (all : List Entry) (n : ℕ). rows_from id (before ++ entry ∷ []) (place + 1) entries ++ rows_from id all n more)
    (append_assoc before (entry ∷ []) entries) (one_behind place (length entries)))

abbrev pub is_row_of : Text → EntryRow → Bool
is_row_of id e = bytes_eq e.invocation id

keeps_row : (id : Text) (row : EntryRow) (rows : List EntryRow) (b : Bool) → filter (is_row_of id) rows ≡ (if b then rows else [])
    → (if b then row ∷ filter (is_row_of id) rows else filter (is_row_of id) rows) ≡ (if b then row ∷ rows else [])
keeps_row id row rows true h = ap (λ (rest : List EntryRow). row ∷ rest) h
keeps_row id row rows false h = h

-- all rows of an invocation's entries are its own
pub rows_of-one : (x id : Text) (before : List Entry) (place : ℕ) (entries : List Entry)
    → filter (is_row_of id) (rows_from x before place entries) ≡ (if bytes_eq x id then rows_from x before place entries else [])
rows_of-one x id before place [] = sym (both_same (bytes_eq x id) [])
rows_of-one x id before place (Recorded request ∷ entries) =
    keeps_row id (entry_row x before place (Recorded request)) (rows_from x (before ++ Recorded request ∷ []) (place + 1) entries) (bytes_eq x id)
    (rows_of-one x id (before ++ Recorded request ∷ []) (place + 1) entries)
rows_of-one x id before place (Arrived arrival ∷ entries) =
    keeps_row id (entry_row x before place (Arrived arrival)) (rows_from x (before ++ Arrived arrival ∷ []) (place + 1) entries) (bytes_eq x id)
    (rows_of-one x id (before ++ Arrived arrival ∷ []) (place + 1) entries)

-- the rows of what an event adds to an invocation's entries
abbrev pub rows_behind : List Event → Event → Text → List Entry → List EntryRow
rows_behind events event id added = rows_from id (entries_of events id) (1 + length (entries_of events id)) added

abbrev pub added_to : List Event → Event → Text → List Entry
added_to events event id = entries_added (starting_state events id) events id event (entries_of events id)

-- an event of one invocation writes the rows of what it adds to it
of_one : (events : List Event) (event : Event) (x id : Text) → invocation_of event ≡ Some x → is_tick event ≡ false
    → filter (is_row_of id) (flat_map (rows_added events event) (x ∷ [])) ≡ rows_behind events event id (added_to events event id)
of_one events event x id named still =
    ap (filter (is_row_of id)) (append-nil (rows_added events event x))
    ∙ rows_of-one x id (entries_of events x) (1 + length (entries_of events x)) (entries_of_event (starting_state events x) (entries_of events x) event)
    ∙ by_test (bytes_eq x id) refl
  where
    is_named : is_of id event ≡ bytes_eq x id
    is_named = rw named refl

    by_test : (b : Bool) → bytes_eq x id ≡ b → (if b then rows_added events event x else []) ≡ rows_behind events event id (added_to events event id)
    by_test true e =
        ap (rows_added events event) ((bytes_eq-Decides x id).0 e)
        ∙ sym (ap (λ (b : Bool). rows_behind events event id (if b || (is_tick event && is_open events id) then entries_of_event (starting_state events id) (entries_of events id) event else [])) (is_named ∙ e))
    by_test false e =
        sym (ap (rows_behind events event id) (foreign_adds (starting_state events id) events event id (entries_of events id) (is_named ∙ e) still))

-- an event that tells nothing writes no rows, and adds none
of_none : (events : List Event) (event : Event) (id : Text) → is_tick event ≡ false → is_still event ≡ true
    → [] ≡ rows_behind events event id (added_to events event id)
of_none events event id ticks still =
    sym (ap (rows_behind events event id) (nothing_added (starting_state events id) events event id (entries_of events id) ticks (inr still)))

-- ---- the rows of a tick: those of each invocation once

module _ (id : Text) (rows : Text → List EntryRow) (test : Text → Bool)
    (own : (x : Text) → filter (is_row_of id) (rows x) ≡ (if bytes_eq x id then rows x else [])) where
  abbrev chosen : List NewInvocation → List EntryRow
  chosen news = flat_map rows (filter test (map (λ (new : NewInvocation). new.id) news))

  abbrev own_rows : List EntryRow
  own_rows = if test id then rows id else []

  rows_of_begun : (x : Text) → filter (is_row_of id) (flat_map rows (if test x then x ∷ [] else [])) ≡ (if bytes_eq x id then own_rows else [])
  rows_of_begun x = by_cases (test x) refl (bytes_eq x id) refl
    where
      by_cases : (a : Bool) → test x ≡ a → (b : Bool) → bytes_eq x id ≡ b → filter (is_row_of id) (flat_map rows (if a then x ∷ [] else [])) ≡ (if b then own_rows else [])
      by_cases true e b f =
          ap (filter (is_row_of id)) (append-nil (rows x)) ∙ own x ∙ ap (λ (c : Bool). if c then rows x else []) f ∙ if_own b f
        where
          if_own : (b : Bool) → bytes_eq x id ≡ b → (if b then rows x else []) ≡ (if b then own_rows else [])
          if_own true f =
              let same : x ≡ id = (bytes_eq-Decides x id).0 f in
              ap rows same ∙ sym (ap (λ (c : Bool). if c then rows id else []) (sym (ap test same) ∙ e))
          if_own false f = refl
      by_cases false e true f =
          let same : x ≡ id = (bytes_eq-Decides x id).0 f in
          sym (ap (λ (c : Bool). if c then rows id else []) (sym (ap test same) ∙ e))
      by_cases false e false f = refl

  joined : (b : Bool) (o : Option NewInvocation) (new : NewInvocation) → (b ≡ true → is_some o ≡ false)
      → (if is_some o then own_rows else []) ++ (if b then own_rows else []) ≡ (if is_some (if b then Some new else o) then own_rows else [])
  joined true None new h = refl
  joined true (Some other) new h = absurd (true≢false (h refl))
  joined false o new h = append-nil (if is_some o then own_rows else [])

  chosen-append : (news : List NewInvocation) (new : NewInvocation)
      → filter (is_row_of id) (chosen (news ++ new ∷ []))
      ≡ filter (is_row_of id) (chosen news) ++ filter (is_row_of id) (flat_map rows (if test new.id then new.id ∷ [] else []))
  chosen-append news new =
      ap (λ (ids : List Text). filter (is_row_of id) (flat_map rows (filter test ids))) (map-append (λ (new : NewInvocation). new.id) news (new ∷ []))
      ∙ ap (λ (ids : List Text). filter (is_row_of id) (flat_map rows ids)) (filter-append test (map (λ (new : NewInvocation). new.id) news) (new.id ∷ []))
      ∙ ap (filter (is_row_of id)) (flat_map-append rows (filter test (map (λ (new : NewInvocation). new.id) news)) (if test new.id then new.id ∷ [] else []))
      ∙ filter-append (is_row_of id) (chosen news) (flat_map rows (if test new.id then new.id ∷ [] else []))

  of_chosen : (earlier : List Event) → IsAccepted earlier
      → filter (is_row_of id) (chosen (begun earlier)) ≡ (if is_some (invocation_begun earlier id) then own_rows else [])
  of_chosen [] accepted = refl
  of_chosen (Event.Invoke new ∷ earlier) accepted =
      chosen-append (begun earlier) new
      ∙ ap₂ (λ (xs ys : List EntryRow). xs ++ ys) (of_chosen earlier accepted.1) (rows_of_begun new.id)
      ∙ joined (bytes_eq new.id id) (invocation_begun earlier id) new not_before
    where
      not_before : bytes_eq new.id id ≡ true → is_some (invocation_begun earlier id) ≡ false
      not_before e =
          let same : new.id ≡ id = (bytes_eq-Decides new.id id).0 e in
          subst (λ (x : Text). is_some (invocation_begun earlier x) ≡ false) same (begin_when_new earlier new accepted.0)
  of_chosen (event ∷ earlier) accepted =
      ap (λ (news : List NewInvocation). filter (is_row_of id) (chosen news)) (append-nil (begun earlier))
      ∙ of_chosen earlier accepted.1
      ∙ sym (ap (λ (o : Option NewInvocation). if is_some o then own_rows else []) (begun_before event earlier id refl))

and_first : (a b : Bool) → (a && b) ≡ true → a ≡ true
and_first true b e = refl
and_first false b e = cc

pub rows_slept : (s o : Bool) (arrivals : List Arrival) (rows : List Entry → List EntryRow) → rows [] ≡ [] → (o ≡ true → s ≡ true)
    → (if s then (if o && not (is_empty arrivals) then rows (map Arrived arrivals) else []) else []) ≡ rows (if o then map Arrived arrivals else [])
rows_slept s false arrivals rows none h = both_same s [] ∙ sym none
rows_slept true true [] rows none h = sym none
rows_slept true true (arrival ∷ arrivals) rows none h = refl
rows_slept false true arrivals rows none h = absurd (true≢false (sym (h refl)))

of_tick : (events : List Event) (now : ℕ) (id : Text) → IsAccepted events
    → filter (is_row_of id) (flat_map (rows_added events (Event.Tick now)) (changed_by events (Event.Tick now)))
    ≡ rows_behind events (Event.Tick now) id (added_to events (Event.Tick now) id)
of_tick events now id accepted =
    of_chosen id (rows_added events (Event.Tick now)) (ends_sleep events now)
    (λ x. rows_of-one x id (entries_of events x) (1 + length (entries_of events x)) (entries_of_event (starting_state events x) (entries_of events x) (Event.Tick now)))
    events accepted
    ∙ rows_slept (is_some (invocation_begun events id)) (is_open events id) (slept (entries_of events id) now) (rows_behind events (Event.Tick now) id) refl
    (λ opened. and_first (is_some (invocation_begun events id)) _ opened)

-- ---- all events but a begin

of_frame : (events : List Event) (id x : Text) (attempt : ℕ) (frame : Frame)
    → filter (is_row_of id) (flat_map (rows_added events (Event.Move x attempt frame)) (ids_of_frame x frame))
    ≡ rows_behind events (Event.Move x attempt frame) id (added_to events (Event.Move x attempt frame) id)
of_frame events id x attempt (Frame.AwaitingOn awaited) = of_none events (Event.Move x attempt (Frame.AwaitingOn awaited)) id refl refl
of_frame events id x attempt Frame.Broken = of_none events (Event.Move x attempt Frame.Broken) id refl refl
of_frame events id x attempt Frame.TooDeep = of_none events (Event.Move x attempt Frame.TooDeep) id refl refl
of_frame events id x attempt Frame.NotAccepted = of_none events (Event.Move x attempt Frame.NotAccepted) id refl refl
of_frame events id x attempt frame = of_one events (Event.Move x attempt frame) x id refl refl

abbrev WritesRows : List Event → Event → Text → Type 0
WritesRows events event id =
    filter (is_row_of id) (flat_map (rows_added events event) (changed_by events event)) ≡ rows_behind events event id (added_to events event id)

writes_rows : (events : List Event) (event : Event) (id : Text) → IsAccepted events → invoked_by event ≡ None → WritesRows events event id
writes_rows events (Event.Invoke new) id accepted e = cc
writes_rows events (Event.Result x n result) id accepted e = of_one events (Event.Result x n result) x id refl refl
writes_rows events (Event.Signal x key result) id accepted e = of_one events (Event.Signal x key result) x id refl refl
writes_rows events (Event.Cancel x) id accepted e = of_one events (Event.Cancel x) x id refl refl
writes_rows events (Event.Tick now) id accepted e = of_tick events now id accepted
writes_rows events (Event.Begin x now) id accepted e = of_one events (Event.Begin x now) x id refl refl
writes_rows events (Event.Feed x attempt most) id accepted e = of_none events (Event.Feed x attempt most) id refl refl
writes_rows events (Event.Close x attempt) id accepted e = of_none events (Event.Close x attempt) id refl refl
writes_rows events (Event.Move x attempt frame) id accepted e = of_frame events id x attempt frame
writes_rows events (Event.Stop x attempt) id accepted e = of_none events (Event.Stop x attempt) id refl refl
writes_rows events (Event.Edit object request) id accepted e =
    sym (ap (rows_behind events (Event.Edit object request) id) (foreign_adds (starting_state events id) events (Event.Edit object request) id (entries_of events id) refl refl))

no_more : (xs ys : List Entry) → (xs ++ ys) ≡ [] → ys ≡ []
no_more [] ys e = e
no_more (x ∷ xs) ys e = cc

begins_none : (event : Event) (id : Text) → invoked_by event ≡ None → begins id event ≡ false
begins_none (Event.Invoke new) id e = cc
begins_none _ id e = refl

-- the rows of a journal and of what an event adds to it
pub journal_grows : (events : List Event) (event : Event) (id : Text) → IsAccepted (event ∷ events) → invoked_by event ≡ None
    → journal_rows (event ∷ events) id ≡ journal_rows events id ++ rows_behind events event id (added_to events event id)
journal_grows events event id accepted e =
    ap₂ (λ (o : Option NewInvocation) (entries : List Entry). rows_of_journal o id entries) (begun_before event events id e) entries_now
    ∙ by_begun (invocation_begun events id) refl
  where
    same_start : starting_state (event ∷ events) id ≡ starting_state events id
    same_start = rw (begins_none event id e) refl

    entries_now : entries_of (event ∷ events) id ≡ entries_of events id ++ added_to events event id
    entries_now = ap (λ start. entries_from start (event ∷ events) id) same_start

    nothing : invocation_begun events id ≡ None → added_to events event id ≡ []
    nothing none =
        no_more (entries_of events id) (added_to events event id)
        (no_entries (starting_state events id) (event ∷ events) accepted id (begun_before event events id e ∙ none))

    by_begun : (o : Option NewInvocation) → invocation_begun events id ≡ o
        → rows_of_journal o id (entries_of events id ++ added_to events event id)
        ≡ rows_of_journal o id (entries_of events id) ++ rows_behind events event id (added_to events event id)
    by_begun None none = sym (ap (rows_behind events event id) (nothing none))
    by_begun (Some new) is = ap (λ (rows : List EntryRow). input_row new ∷ rows) (rows_from-append id [] 1 (entries_of events id) (added_to events event id))

-- a new invocation's journal is its input
journal_begins : (events : List Event) (new : NewInvocation) (id : Text) → IsAccepted (Event.Invoke new ∷ events)
    → journal_rows events id ++ filter (is_row_of id) (input_row new ∷ []) ≡ journal_rows (Event.Invoke new ∷ events) id
journal_begins events new id accepted = by_test (bytes_eq new.id id) refl
  where
    by_test : (b : Bool) → bytes_eq new.id id ≡ b
        → journal_rows events id ++ (if b then input_row new ∷ [] else []) ≡ journal_rows (Event.Invoke new ∷ events) id
    by_test true e =
        let same : new.id ≡ id = (bytes_eq-Decides new.id id).0 e in
        let none : invocation_begun events id ≡ None = none_of (invocation_begun events id) (subst (λ (x : Text). is_some (invocation_begun events x) ≡ false) same (begin_when_new events new accepted.0)) in
        let start = starting_state (Event.Invoke new ∷ events) id in
        let nothing : entries_of (Event.Invoke new ∷ events) id ≡ [] =
        ap₂ (λ (xs ys : List Entry). xs ++ ys) (no_entries start events accepted.1 id none) (both_same (bytes_eq new.id id || false) []) in
        let now_begun : invocation_begun (Event.Invoke new ∷ events) id ≡ Some new = rw e refl in
        ap (λ (o : Option NewInvocation). rows_of_journal o id (entries_of events id) ++ input_row new ∷ []) none
        ∙ sym (ap₂ (λ (o : Option NewInvocation) (entries : List Entry). rows_of_journal o id entries) now_begun nothing)
    by_test false e =
        append-nil (journal_rows events id)
        ∙ sym (ap₂ (λ (o : Option NewInvocation) (entries : List Entry). rows_of_journal o id entries)
        (same_begun events (Event.Invoke new) id (inl e))
        (same_entries events (Event.Invoke new) id (inl e) (foreign_adds (starting_state events id) events (Event.Invoke new) id (entries_of events id) e refl)))

-- what an accepted event writes makes of each kept journal the next
pub journals_kept : (events : List Event) (event : Event) (id : Text) → IsAccepted (event ∷ events)
    → (journal_rows events id ++ filter (is_row_of id) (map input_row (begun_by event))) ++ filter (is_row_of id) (flat_map (rows_added events event) (changed_by events event))
    ≡ journal_rows (event ∷ events) id
journals_kept events (Event.Invoke new) id accepted =
    append-nil (journal_rows events id ++ filter (is_row_of id) (input_row new ∷ [])) ∙ journal_begins events new id accepted
journals_kept events event id accepted =
    ap₂ (λ (xs ys : List EntryRow). xs ++ ys) (append-nil (journal_rows events id)) (writes_rows events event id accepted.1 refl)
    ∙ sym (journal_grows events event id accepted refl)
