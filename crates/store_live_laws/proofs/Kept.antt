-- The rows that a waiting invocation has not heard, and which progress is written.
use Rattle.std.proofs.Common.{ℕ, ◌+◌, ◌≡◌, refl, sym, ap, ap₂, ◌∙◌, true≢false, not, Bool, true, false, ◌&&◌, ◌||◌, if◌then◌else◌, List, [], ◌∷◌, ◌++◌, append-nil, map, filter, drop, Some, is_some, bytes_eq, subst, IsPermutation}
use Rattle.std.specs.List.{list_any}
use Rattle.std.proofs.lemmas.List.{drop-map, map-append}
use Rattle.std.proofs.lemmas.List.Folds.{list_any-append}
use Rattle.std.proofs.lemmas.Slice.Eq.{bytes_eq-Decides}
use Rattle.journal_model.specs.declared.invocation.NewInvocation.{NewInvocation}
use Rattle.journal_model.specs.Notification.{Bytes, Text, Arrival}
use Rattle.journal_model.specs.Spelling.{notification_payload}
use Rattle.journal_model.specs.Event.{Frame, Event}
use Rattle.journal_model.specs.Journal.{Entry, Recorded, Arrived, invocation_begun, version_of, closes, frames_of, is_open, arrivals_in, slept, entries_of, recorded_arrivals}
use Rattle.journal_model.specs.Cause.{is_empty}
use Rattle.input_laws.proofs.Events.{begun_same}
use Rattle.due_laws.specs.Awake.{heard_of, or_zero, not_heard, is_awake_kept}
use Rattle.due_laws.proofs.DueList.{any_filter, due_listed}
use Rattle.due_laws.proofs.Noting.{noted_elsewhere, noted_still, noted_unticked}
use Rattle.store_tables.specs.declared.row.EntryRow.{EntryRow}
use Rattle.store_model.specs.KeptRecords.{begun, invocation_row}
use Rattle.store_model.specs.Writes.{ends_sleep, changed_by}
use Rattle.store_model.specs.Lookups.{arrival_rows, rows_of_arrivals}
use Rattle.std.proofs.lemmas.List.Sorted.{list_any-IsPermutation, IsPermutation-map}
use Rattle.journal_model.specs.Attempt.{suspension_of, is_woken}
use Rattle.due_laws.specs.DueList.{DoRise}
use Rattle.store_tables.specs.declared.row.InvocationRow.{InvocationRow}
use Rattle.store_tables.specs.Questions.{DoAscend}
use Rattle.store_live_laws.specs.RowLaws.{RowsAreNotHeard, ChangedCovers, DueFromRows}

rows_payloads : (id : Text) (before : List Entry) (place : ℕ) (entries : List Entry)
    → map (λ (row : EntryRow). row.payload) (rows_of_arrivals id before place entries) ≡ map notification_payload (arrivals_in entries)
rows_payloads id before place [] = refl
rows_payloads id before place (Recorded request ∷ entries) = rows_payloads id (before ++ Recorded request ∷ []) (place + 1) entries
rows_payloads id before place (Arrived arrival ∷ entries) =
    ap (λ (rest : List Bytes). notification_payload arrival ∷ rest) (rows_payloads id (before ++ Arrived arrival ∷ []) (place + 1) entries)

pub rows_are_not_heard : RowsAreNotHeard
rows_are_not_heard events id =
    sym (drop-map (λ (row : EntryRow). row.payload) (or_zero (heard_of events id)) (arrival_rows events id))
    ∙ ap (drop (or_zero (heard_of events id))) (rows_payloads id [] 1 (entries_of events id))
    ∙ drop-map notification_payload (or_zero (heard_of events id)) (recorded_arrivals events id)

-- ---- which progress is written

either_way : (x y : Text) → bytes_eq x y ≡ false → bytes_eq y x ≡ false
either_way x y e = by_test (bytes_eq y x) refl
  where
    by_test : (b : Bool) → bytes_eq y x ≡ b → b ≡ false
    by_test true f = absurd (true≢false (sym ((bytes_eq-Decides x y).1 (sym ((bytes_eq-Decides y x).0 f))) ∙ e))
    by_test false f = refl

alone : (b : Bool) → (b || false) ≡ false → b ≡ false
alone true e = cc
alone false e = refl

other : (id named : Text) → list_any (bytes_eq id) (named ∷ []) ≡ false → bytes_eq named id ≡ false
other id named e = either_way id named (alone (bytes_eq id named) e)

right : (a b : Bool) → b ≡ true → (a || b) ≡ true
right true b h = refl
right false b h = h

left : (a b : Bool) → a ≡ true → (a || b) ≡ true
left true b h = refl
left false b h = cc

begun_among : (events : List Event) (id : Text) → is_some (invocation_begun events id) ≡ true → list_any (bytes_eq id) (map (λ (new : NewInvocation). new.id) (begun events)) ≡ true
begun_among [] id e = absurd (true≢false (sym e))
begun_among (Event.Invoke new ∷ events) id e = by_id (bytes_eq new.id id) refl e (begun_among events id)
  where
    both : list_any (bytes_eq id) (map (λ (new : NewInvocation). new.id) (begun events ++ new ∷ []))
        ≡ (list_any (bytes_eq id) (map (λ (new : NewInvocation). new.id) (begun events)) || (bytes_eq id new.id || false))
    both =
        ap (list_any (bytes_eq id)) (map-append (λ (one : NewInvocation). one.id) (begun events) (new ∷ []))
        ∙ list_any-append (bytes_eq id) (map (λ (one : NewInvocation). one.id) (begun events)) (new.id ∷ [])

    by_id : (b : Bool) → bytes_eq new.id id ≡ b → is_some (if b then Some new else invocation_begun events id) ≡ true
        → (is_some (invocation_begun events id) ≡ true → list_any (bytes_eq id) (map (λ (new : NewInvocation). new.id) (begun events)) ≡ true)
        → list_any (bytes_eq id) (map (λ (new : NewInvocation). new.id) (begun events ++ new ∷ [])) ≡ true
    by_id true f e later =
        both ∙ right (list_any (bytes_eq id) (map (λ (one : NewInvocation). one.id) (begun events))) (bytes_eq id new.id || false)
        (left (bytes_eq id new.id) false ((bytes_eq-Decides id new.id).1 (sym ((bytes_eq-Decides new.id id).0 f))))
    by_id false f e later = both ∙ left (list_any (bytes_eq id) (map (λ (one : NewInvocation). one.id) (begun events))) (bytes_eq id new.id || false) (later e)
begun_among (event ∷ events) id e =
    ap (λ (news : List NewInvocation). list_any (bytes_eq id) (map (λ (new : NewInvocation). new.id) news)) (append-nil (begun events))
    ∙ begun_among events id (ap is_some (sym (begun_same event events id refl)) ∙ e)

and_first : (a b : Bool) → (a && b) ≡ true → a ≡ true
and_first true b e = refl
and_first false b e = e

nothing_slept : (events : List Event) (now : ℕ) (id : Text) → list_any (bytes_eq id) (changed_by events (Event.Tick now)) ≡ false → is_open events id ≡ true → slept (entries_of events id) now ≡ []
nothing_slept events now id e opened = by_slept (slept (entries_of events id) now) refl
  where
    among : list_any (bytes_eq id) (map (λ (new : NewInvocation). new.id) (begun events)) ≡ true
    among = begun_among events id (and_first (is_some (invocation_begun events id)) (not (list_any (closes (version_of events id)) (frames_of events id))) opened)

    is_not : (is_open events id && not (is_empty (slept (entries_of events id) now))) ≡ false
    is_not =
        by_both (is_open events id && not (is_empty (slept (entries_of events id) now)))
        (sym (ap (λ (b : Bool). (is_open events id && not (is_empty (slept (entries_of events id) now))) && b) among)
        ∙ sym (any_filter (ends_sleep events now) id (map (λ (new : NewInvocation). new.id) (begun events))) ∙ e)
      where
        by_both : (b : Bool) → (b && true) ≡ false → b ≡ false
        by_both true e = e
        by_both false e = refl

    by_slept : (arrivals : List Arrival) → slept (entries_of events id) now ≡ arrivals → arrivals ≡ []
    by_slept [] f = refl
    by_slept (arrival ∷ arrivals) f =
        absurd (true≢false (sym (ap₂ (λ (a : Bool) (some : List Arrival). a && not (is_empty some)) opened f) ∙ is_not))

pub changed_covers : ChangedCovers
changed_covers events (Event.Invoke new) id accepted old e = noted_elsewhere events (Event.Invoke new) id old refl
changed_covers events (Event.Result named n result) id accepted old e = noted_elsewhere events (Event.Result named n result) id (other id named e) refl
changed_covers events (Event.Signal named key result) id accepted old e = noted_elsewhere events (Event.Signal named key result) id (other id named e) refl
changed_covers events (Event.Cancel named) id accepted old e = noted_elsewhere events (Event.Cancel named) id (other id named e) refl
changed_covers events (Event.Tick now) id accepted old e = noted_unticked events now id accepted.1 (nothing_slept events now id e)
changed_covers events (Event.Begin named now) id accepted old e = noted_elsewhere events (Event.Begin named now) id (other id named e) refl
changed_covers events (Event.Feed named attempt most) id accepted old e = noted_still events (Event.Feed named attempt most) id refl
changed_covers events (Event.Close named attempt) id accepted old e = noted_still events (Event.Close named attempt) id refl
changed_covers events (Event.Stop named attempt) id accepted old e = noted_still events (Event.Stop named attempt) id refl
changed_covers events (Event.Edit object request) id accepted old e = noted_elsewhere events (Event.Edit object request) id refl refl
changed_covers events (Event.Move named attempt (Frame.AwaitingOn awaited)) id accepted old e = noted_still events (Event.Move named attempt (Frame.AwaitingOn awaited)) id refl
changed_covers events (Event.Move named attempt Frame.Broken) id accepted old e = noted_still events (Event.Move named attempt Frame.Broken) id refl
changed_covers events (Event.Move named attempt Frame.TooDeep) id accepted old e = noted_still events (Event.Move named attempt Frame.TooDeep) id refl
changed_covers events (Event.Move named attempt Frame.NotAccepted) id accepted old e = noted_still events (Event.Move named attempt Frame.NotAccepted) id refl
changed_covers events (Event.Move named attempt frame) id accepted old e = noted_elsewhere events (Event.Move named attempt frame) id (other id named e) refl

-- ---- the rows that have the flag

ids_rise : (rows : List InvocationRow) → DoAscend (λ (row : InvocationRow). row.id) rows → DoRise (map (λ (row : InvocationRow). row.id) rows)
ids_rise [] h = tt
ids_rise (x ∷ []) h = tt
ids_rise (x ∷ y ∷ rows) h = (h.0, ids_rise (y ∷ rows) h.1)

ids_filtered : (events : List Event) (p : Text → Bool) (news : List NewInvocation)
    → map (λ (row : InvocationRow). row.id) (filter (λ (row : InvocationRow). p row.id) (map (invocation_row events) news)) ≡ filter p (map (λ (new : NewInvocation). new.id) news)
ids_filtered events p [] = refl
ids_filtered events p (new ∷ news) = by_test (p new.id) (ids_filtered events p news)
  where
    by_test : (b : Bool)
        → map (λ (row : InvocationRow). row.id) (filter (λ (row : InvocationRow). p row.id) (map (invocation_row events) news)) ≡ filter p (map (λ (new : NewInvocation). new.id) news)
        → map (λ (row : InvocationRow). row.id)
        (if b then invocation_row events new ∷ filter (λ (row : InvocationRow). p row.id) (map (invocation_row events) news) else filter (λ (row : InvocationRow). p row.id) (map (invocation_row events) news))
        ≡ (if b then new.id ∷ filter p (map (λ (new : NewInvocation). new.id) news) else filter p (map (λ (new : NewInvocation). new.id) news))
    by_test true later = ap (λ (rest : List Text). new.id ∷ rest) later
    by_test false later = later

awake_among : (events : List Event) (q : Text) → is_awake_kept events q ≡ true → list_any (bytes_eq q) (map (λ (new : NewInvocation). new.id) (begun events)) ≡ true
awake_among events q e =
    begun_among events q
    (and_first (is_some (invocation_begun events q)) (not (list_any (closes (version_of events q)) (frames_of events q)))
    (and_first (is_open events q) (is_woken (not_heard events q) (suspension_of events q)) e))

pub due_from_rows : DueFromRows
due_from_rows events rows accepted ascend permuted =
    due_listed events (map (λ (row : InvocationRow). row.id) rows) accepted (record {
      rise = ids_rise rows ascend;
      those = λ id.
          sym (list_any-IsPermutation (bytes_eq id) (filter (is_awake_kept events) (map (λ (new : NewInvocation). new.id) (begun events))) (map (λ (row : InvocationRow). row.id) rows) ids)
          ∙ any_filter (is_awake_kept events) id (map (λ (new : NewInvocation). new.id) (begun events))
          ∙ as_flag (is_awake_kept events id) (list_any (bytes_eq id) (map (λ (new : NewInvocation). new.id) (begun events))) (awake_among events id);
    })
  where
    ids : IsPermutation (filter (is_awake_kept events) (map (λ (new : NewInvocation). new.id) (begun events))) (map (λ (row : InvocationRow). row.id) rows)
    ids =
        subst (λ (some : List Text). IsPermutation some (map (λ (row : InvocationRow). row.id) rows)) (ids_filtered events (is_awake_kept events) (begun events))
        (IsPermutation-map (λ (row : InvocationRow). row.id) (filter (λ (row : InvocationRow). is_awake_kept events row.id) (map (invocation_row events) (begun events))) rows permuted)

    as_flag : (a b : Bool) → (a ≡ true → b ≡ true) → (a && b) ≡ a
    as_flag true b h = h refl
    as_flag false b h = refl
