-- The places of an input's frames, and how far it was handed.
use Rattle.std.proofs.Common.{ℕ, zero, suc, ◌+◌, ◌-◌, ◌≤◌, ◌<◌, arith, nat_le, ◌≡◌, refl, sym, ap, ap₂, ◌∙◌, true≢false, Bool, true, false, if◌then◌else◌, List, [], ◌∷◌, ◌++◌, append-nil, append_assoc, length, length-append, map, take, drop, Option, Some, None, is_some, bytes_eq}
use Rattle.std.specs.List.{slice_get}
use Rattle.std.proofs.lemmas.Bool.{le-leb, lt-leb}
use Rattle.std.proofs.lemmas.List.{length-map, take-append-le, drop-append-le, drop_all, take-append-drop, length-drop}
use Rattle.std.proofs.Math.Seq.{take-length}
use Rattle.std.proofs.lemmas.Option.{slice_get-map}
use Rattle.journal_model.specs.declared.invocation.NewInvocation.{NewInvocation}
use Rattle.journal_model.specs.Notification.{Text}
use Rattle.journal_model.specs.State.{StateMap}
use Rattle.journal_model.specs.Event.{Event}
use Rattle.journal_model.specs.Journal.{Entry, Recorded, Arrived, begins, invocation_begun, starting_state, arrivals_in, entries_from, entries_of, recorded_arrivals}
use Rattle.journal_model.specs.Attempt.{Piece, begins_attempt, entry_piece, journal_pieces, input_pieces, input_bytes, bytes_handed}
use Rattle.journal_model.specs.Cause.{IsAccepted}
use Rattle.input_laws.proofs.Events.{added_by, begun_same, start_same, entries_now, entries_first, not_begun, itself}
use Rattle.input_laws.proofs.Handed.{first_input, begin_added, begun_is}
use Rattle.due_laws.specs.Rows.{frames_known, arrivals_known}
use Rattle.due_laws.specs.InputParts.{frames_whole}
use Rattle.due_laws.proofs.Rows.{known_within, known_now, arrived_now, get_first, get_behind, get_drop, pieces_are_rows}
use Rattle.due_laws.proofs.InputParts.{IsPartial, rows_cut}
use Rattle.store_tables.specs.declared.row.EntryRow.{EntryRow}
use Rattle.store_model.specs.Places.{places_of, places_of_arrivals, journal_places, places_from, input_places, place_behind}
use Rattle.store_model.specs.Lookups.{arrival_rows, rows_of_arrivals}
use Rattle.store_live_laws.proofs.Counting.{same_count}
use Rattle.store_live_laws.specs.InputRows.{AllFramesAreRead, KnownAtBegin, behind_place, place_after, HandedIsRead}
use Rattle.store_live_laws.proofs.Frames.{frame_known, frame_later}

-- ---- places one behind the other

places_more : (place : ℕ) (xs ys : List Entry) → places_of place (xs ++ ys) ≡ places_of place xs ++ places_of (place + length xs) ys
places_more place [] ys = let same : place ≡ place + 0 = omega arith in ap (λ (p : ℕ). places_of p ys) same
places_more place (x ∷ xs) ys =
    let same : (place + 1) + length xs ≡ place + suc (length xs) = omega arith in
    ap (λ (rest : List ℕ). place ∷ rest) (places_more (place + 1) xs ys ∙ ap (λ (p : ℕ). places_of (place + 1) xs ++ places_of p ys) same)

arrivals_more : (place : ℕ) (xs ys : List Entry) → places_of_arrivals place (xs ++ ys) ≡ places_of_arrivals place xs ++ places_of_arrivals (place + length xs) ys
arrivals_more place [] ys = let same : place ≡ place + 0 = omega arith in ap (λ (p : ℕ). places_of_arrivals p ys) same
arrivals_more place (Recorded request ∷ xs) ys =
    let same : (place + 1) + length xs ≡ place + suc (length xs) = omega arith in
    arrivals_more (place + 1) xs ys ∙ ap (λ (p : ℕ). places_of_arrivals (place + 1) xs ++ places_of_arrivals p ys) same
arrivals_more place (Arrived arrival ∷ xs) ys =
    let same : (place + 1) + length xs ≡ place + suc (length xs) = omega arith in
    ap (λ (rest : List ℕ). place ∷ rest) (arrivals_more (place + 1) xs ys ∙ ap (λ (p : ℕ). places_of_arrivals (place + 1) xs ++ places_of_arrivals p ys) same)

places_count : (place : ℕ) (entries : List Entry) → length (places_of place entries) ≡ length entries
places_count place [] = refl
places_count place (entry ∷ entries) = ap suc (places_count (place + 1) entries)

arrivals_count : (place : ℕ) (entries : List Entry) → length (places_of_arrivals place entries) ≡ length (arrivals_in entries)
arrivals_count place [] = refl
arrivals_count place (Recorded request ∷ entries) = arrivals_count (place + 1) entries
arrivals_count place (Arrived arrival ∷ entries) = ap suc (arrivals_count (place + 1) entries)

journal_count : (o : Option NewInvocation) (entries : List Entry) → length (journal_places o entries) ≡ length (journal_pieces o entries)
journal_count None entries = refl
journal_count (Some new) entries = ap suc (places_count 1 entries ∙ sym (length-map entries (entry_piece entries)))

journal_more : (o : Option NewInvocation) (entries more : List Entry) → (rest : List ℕ) × (journal_places o (entries ++ more) ≡ journal_places o entries ++ rest)
journal_more None entries more = ([], refl)
journal_more (Some new) entries more = (places_of (1 + length entries) more, ap (λ (rest : List ℕ). 0 ∷ rest) (places_more 1 entries more))

journal_known : (o : Option NewInvocation) (entries : List Entry) → is_some o ≡ true → length (journal_places o entries) ≡ 1 + length entries
journal_known None entries e = absurd (true≢false (sym e))
journal_known (Some new) entries e = let same = places_count 1 entries in omega (arith, same)

-- ---- all places

abbrev ArePlaces : List Event → Text → Type 0
ArePlaces events id =
    input_places events id ≡ take (frames_known events id) (journal_places (invocation_begun events id) (entries_of events id)) ++ drop (arrivals_known events id) (places_of_arrivals 1 (entries_of events id))

module _ (events : List Event) (event : Event) (id : Text) (accepted : IsAccepted (event ∷ events)) (old : begins id event ≡ false) where
  places_now : (b : Bool) → begins_attempt id event ≡ b
      → input_places (event ∷ events) id ≡ (if b then journal_places (invocation_begun events id) (entries_of events id)
      else input_places events id ++ places_of_arrivals (1 + length (entries_of events id)) (added_by events id event))
  places_now b e =
      ap (λ (start : StateMap). places_from start (event ∷ events) id) (start_same event events id old)
      ∙ ap (λ (c : Bool). if c then journal_places (invocation_begun events id) (entries_of events id)
      else input_places events id ++ places_of_arrivals (1 + length (entries_of events id)) (added_by events id event)) e

  places_begun : begins_attempt id event ≡ true → ArePlaces (event ∷ events) id
  places_begun e =
      let entries_are : entries_of (event ∷ events) id ≡ entries_of events id =
      entries_now event events id old ∙ ap (λ (added : List Entry). entries_of events id ++ added) (begin_added events event id e) ∙ append-nil (entries_of events id) in
      let count = journal_known (invocation_begun events id) (entries_of events id) (begun_is events event id e accepted.0) in
      let arrivals = arrivals_count 1 (entries_of events id) in
      places_now true e
      ∙ sym (take-length (journal_places (invocation_begun events id) (entries_of events id)))
      ∙ sym (append-nil (take (length (journal_places (invocation_begun events id) (entries_of events id))) (journal_places (invocation_begun events id) (entries_of events id))))
      ∙ ap₂ (λ (some more : List ℕ). some ++ more)
      (ap₂ (λ (n : ℕ) (places : List ℕ). take n places) (count ∙ sym (known_now events event id accepted old true e))
      (ap₂ (λ (o : Option NewInvocation) (entries : List Entry). journal_places o entries) (sym (begun_same event events id old)) (sym entries_are)))
      (sym (ap₂ (λ (n : ℕ) (entries : List Entry). drop n (places_of_arrivals 1 entries)) (arrived_now events event id accepted old true e) entries_are
      ∙ drop_all (length (recorded_arrivals events id)) (places_of_arrivals 1 (entries_of events id)) (omega (arith, arrivals))))

  places_on : begins_attempt id event ≡ false → ArePlaces events id → ArePlaces (event ∷ events) id
  places_on going before =
      let rows = pieces_are_rows events id accepted.1 in
      let grows = journal_more (invocation_begun events id) (entries_of events id) (added_by events id event) in
      let known = rows.known in
      let count = journal_count (invocation_begun events id) (entries_of events id) in
      let arrived = rows.arrived in
      let arrivals = arrivals_count 1 (entries_of events id) in
      let first : take (frames_known (event ∷ events) id) (journal_places (invocation_begun (event ∷ events) id) (entries_of (event ∷ events) id))
      ≡ take (frames_known events id) (journal_places (invocation_begun events id) (entries_of events id)) =
      ap₂ (λ (n : ℕ) (places : List ℕ). take n places) (known_now events event id accepted old false going)
      (ap₂ (λ (o : Option NewInvocation) (entries : List Entry). journal_places o entries) (begun_same event events id old) (entries_now event events id old) ∙ grows.1)
      ∙ take-append-le (frames_known events id) (journal_places (invocation_begun events id) (entries_of events id)) grows.0 (omega (arith, known, count)) in
      let later : drop (arrivals_known (event ∷ events) id) (places_of_arrivals 1 (entries_of (event ∷ events) id))
      ≡ drop (arrivals_known events id) (places_of_arrivals 1 (entries_of events id)) ++ places_of_arrivals (1 + length (entries_of events id)) (added_by events id event) =
      ap₂ (λ (n : ℕ) (entries : List Entry). drop n (places_of_arrivals 1 entries)) (arrived_now events event id accepted old false going) (entries_now event events id old)
      ∙ ap (drop (arrivals_known events id)) (arrivals_more 1 (entries_of events id) (added_by events id event))
      ∙ drop-append-le (arrivals_known events id) (places_of_arrivals 1 (entries_of events id)) (places_of_arrivals (1 + length (entries_of events id)) (added_by events id event))
      (omega (arith, arrived, arrivals)) in
      places_now false going
      ∙ ap (λ (places : List ℕ). places ++ places_of_arrivals (1 + length (entries_of events id)) (added_by events id event)) before
      ∙ append_assoc (take (frames_known events id) (journal_places (invocation_begun events id) (entries_of events id))) (drop (arrivals_known events id) (places_of_arrivals 1 (entries_of events id)))
      (places_of_arrivals (1 + length (entries_of events id)) (added_by events id event))
      ∙ ap₂ (λ (some more : List ℕ). some ++ more) (sym first) (sym later)

  places_step : ArePlaces events id → ArePlaces (event ∷ events) id
  places_step before = by_begin (begins_attempt id event) refl
    where
      by_begin : (b : Bool) → begins_attempt id event ≡ b → ArePlaces (event ∷ events) id
      by_begin true e = places_begun e
      by_begin false e = places_on e before

no_places : (places : List ℕ) → length places ≡ 0 → places ≡ []
no_places [] e = refl
no_places (place ∷ places) e = absurd (omega (arith, e))

drop_none : (n : ℕ) → ◌≡◌ {A = List ℕ} (drop n []) []
drop_none zero = refl
drop_none (suc n) = refl

are_places : (events : List Event) (id : Text) → IsAccepted events → ArePlaces events id
are_places [] id accepted = refl
are_places (Event.Invoke new ∷ events) id accepted = by_id (bytes_eq new.id id) refl (are_places events id accepted.1)
  where
    by_id : (b : Bool) → bytes_eq new.id id ≡ b → ArePlaces events id → ArePlaces (Event.Invoke new ∷ events) id
    by_id true e before =
        let start = starting_state (Event.Invoke new ∷ events) id in
        let within = known_within start events id accepted.1 in
        let none : frames_known (Event.Invoke new ∷ events) id ≡ 0 =
        known_zero (frames_known (Event.Invoke new ∷ events) id) (invocation_begun events id) (entries_from start events id) within (not_begun (Event.Invoke new) events id accepted e) in
        let first : input_places (Event.Invoke new ∷ events) id ≡ [] =
        no_places (input_places (Event.Invoke new ∷ events) id)
        (sym (same_count (Event.Invoke new ∷ events) id) ∙ ap (λ (pieces : List Piece). length pieces) (first_input events (Event.Invoke new) id accepted e)) in
        first
        ∙ sym (ap₂ (λ (n : ℕ) (entries : List Entry). take n (journal_places (invocation_begun (Event.Invoke new ∷ events) id) (entries_of (Event.Invoke new ∷ events) id))
        ++ drop (arrivals_known (Event.Invoke new ∷ events) id) (places_of_arrivals 1 entries)) none (entries_first (Event.Invoke new) events id accepted e)
        ∙ drop_none (arrivals_known (Event.Invoke new ∷ events) id))
      where
        known_zero : (n : ℕ) (o : Option NewInvocation) (entries : List Entry) → n ≤ length (journal_pieces o entries) → o ≡ None → n ≡ 0
        known_zero n None entries low e = omega (arith, low)
        known_zero n (Some new) entries low e = cc
    by_id false e before = places_step events (Event.Invoke new) id accepted e before
are_places (event ∷ events) id accepted = places_step events event id accepted refl (are_places events id accepted.1)

-- ---- one by one

place_at : (place j : ℕ) (entries : List Entry) → j < length entries → slice_get (places_of place entries) j ≡ Some (place + j)
place_at place j [] low = absurd (omega arith)
place_at place zero (entry ∷ entries) low = let same : place ≡ place + 0 = omega arith in ap Some same
place_at place (suc j) (entry ∷ entries) low =
    let same : (place + 1) + j ≡ place + suc j = omega arith in
    place_at (place + 1) j entries (omega arith) ∙ ap Some same

journal_at : (o : Option NewInvocation) (entries : List Entry) (k : ℕ) → k < length (journal_places o entries) → slice_get (journal_places o entries) k ≡ Some k
journal_at None entries k low = absurd (omega arith)
journal_at (Some new) entries zero low = refl
journal_at (Some new) entries (suc j) low =
    let count = places_count 1 entries in
    let same : 1 + j ≡ suc j = omega arith in
    place_at 1 j entries (omega (arith, count)) ∙ ap Some same

rows_places : (id : Text) (before : List Entry) (place : ℕ) (entries : List Entry) → map (λ (row : EntryRow). row.place) (rows_of_arrivals id before place entries) ≡ places_of_arrivals place entries
rows_places id before place [] = refl
rows_places id before place (Recorded request ∷ entries) = rows_places id (before ++ Recorded request ∷ []) (place + 1) entries
rows_places id before place (Arrived arrival ∷ entries) = ap (λ (rest : List ℕ). place ∷ rest) (rows_places id (before ++ Arrived arrival ∷ []) (place + 1) entries)

pub frames_are_read : AllFramesAreRead
frames_are_read events id accepted =
    let rows = pieces_are_rows events id accepted in
    let known = rows.known in
    let count = journal_count (invocation_begun events id) (entries_of events id) in
    let journal = journal_places (invocation_begun events id) (entries_of events id) in
    let later = drop (arrivals_known events id) (places_of_arrivals 1 (entries_of events id)) in
    let all = are_places events id accepted in record {
      at_begin = frame_known events id accepted;
      behind = frame_later events id accepted;
      place = λ k low.
          ap (λ (places : List ℕ). slice_get places k) all ∙ get_first (frames_known events id) k journal later low (omega (arith, known, count))
          ∙ journal_at (invocation_begun events id) (entries_of events id) k (omega (arith, known, count, low));
      place_behind = λ k.
          ap (λ (places : List ℕ). slice_get places (frames_known events id + k)) all
          ∙ get_behind (frames_known events id) (frames_known events id + k) k journal later refl (omega (arith, known, count))
          ∙ get_drop (arrivals_known events id) (arrivals_known events id + k) k (places_of_arrivals 1 (entries_of events id)) refl
          ∙ ap (λ (places : List ℕ). slice_get places (arrivals_known events id + k)) (sym (rows_places id [] 1 (entries_of events id)))
          ∙ slice_get-map (λ (row : EntryRow). row.place) (arrival_rows events id) (arrivals_known events id + k);
    }

pub known_at_begin : KnownAtBegin
known_at_begin events id now = (
  ap (λ (b : Bool). if b then 1 + length (entries_of events id) else frames_known events id) (itself id),
  ap (λ (b : Bool). if b then length (recorded_arrivals events id) else arrivals_known events id) (itself id),
)

-- ---- how far it was handed

last_or : ℕ → List ℕ → ℕ
last_or behind [] = behind
last_or behind (place ∷ places) = last_or (place + 1) places

behind_read : (behind : ℕ) (whole others : List Piece) (ps qs : List ℕ) (n : ℕ) → length ps ≡ length whole
    → place_behind behind (whole ++ others) (ps ++ qs) (length (input_bytes whole) + n) ≡ place_behind (last_or behind ps) others qs n
unfolding last_or
behind_read behind [] others [] qs n e = let same : 0 + n ≡ n = omega arith in ap (place_behind behind others qs) same
behind_read behind [] others (p ∷ ps) qs n e = absurd (omega (arith, e))
behind_read behind (piece ∷ whole) others [] qs n e = absurd (omega (arith, e))
behind_read behind (piece ∷ whole) others (p ∷ ps) qs n e =
    let sum = length-append piece.bytes (input_bytes whole) in
    let all : nat_le (length piece.bytes) (length (piece.bytes ++ input_bytes whole) + n) ≡ true = le-leb (length piece.bytes) (length (piece.bytes ++ input_bytes whole) + n) (omega (arith, sum)) in
    let rest : (length (piece.bytes ++ input_bytes whole) + n) - length piece.bytes ≡ length (input_bytes whole) + n = omega (arith, sum) in
    ap (λ (b : Bool). if b then place_behind (p + 1) (whole ++ others) (ps ++ qs) ((length (piece.bytes ++ input_bytes whole) + n) - length piece.bytes) else behind) all
    ∙ ap (place_behind (p + 1) (whole ++ others) (ps ++ qs)) rest
    ∙ behind_read (p + 1) whole others ps qs n (omega (arith, e))

stops : (behind : ℕ) (others : List Piece) (qs : List ℕ) (n : ℕ) → IsPartial others n → place_behind behind others qs n ≡ behind
stops behind [] qs n h = refl
stops behind (piece ∷ others) [] n h = refl
stops behind (piece ∷ others) (q ∷ qs) n h =
    ap (λ (b : Bool). if b then place_behind (q + 1) others qs (n - length piece.bytes) else behind) (lt-leb (length piece.bytes) n h)

last_is : (p : ℕ) (ps qs : List ℕ) → behind_place (slice_get (p ∷ ps ++ qs) (length ps)) ≡ last_or (p + 1) ps
unfolding last_or
last_is p [] qs = refl
last_is p (q ∷ ps) qs = last_is q ps qs

after_is : (n : ℕ) (ps qs : List ℕ) → length ps ≡ n → place_after n (ps ++ qs) ≡ last_or 0 ps
unfolding last_or
after_is zero [] qs e = refl
after_is zero (p ∷ ps) qs e = absurd (omega (arith, e))
after_is (suc n) [] qs e = absurd (omega (arith, e))
after_is (suc n) (p ∷ ps) qs e =
    let same : n ≡ length ps = omega (arith, e) in
    ap (λ (k : ℕ). behind_place (slice_get (p ∷ ps ++ qs) k)) same ∙ last_is p ps qs

pub handed_is_read : HandedIsRead
handed_is_read events id read rest was =
    let cut = rows_cut events id read rest was in
    let n = frames_whole read rest in
    let pieces = input_pieces events id in
    let places = input_places events id in
    let counts = same_count events id in
    let taken = ap (λ (some : List Piece). length some) cut.pieces_are ∙ length-append (take n pieces) cut.others in
    let all_places : take n places ++ drop n places ≡ places = take-append-drop n places in
    let parts = length-append (take n places) (drop n places) in
    let whole_places = ap (λ (some : List ℕ). length some) all_places in
    let dropped = length-drop n places in
    let count = cut.count in
    let same : length (take n places) ≡ length (take n pieces) = omega (arith, counts, taken, parts, whole_places, dropped, count) in
    ap₂ (λ (some : List Piece) (more : List ℕ). place_behind 0 some more (bytes_handed events id)) cut.pieces_are (sym all_places)
    ∙ ap (place_behind 0 (take n pieces ++ cut.others) (take n places ++ drop n places)) cut.handed
    ∙ behind_read 0 (take n pieces) cut.others (take n places) (drop n places) cut.done same
    ∙ stops (last_or 0 (take n places)) cut.others (drop n places) cut.done cut.partial
    ∙ sym (after_is n (take n places) (drop n places) (same ∙ cut.count))
    ∙ ap (place_after n) all_places
