-- What is kept in memory of an input agrees with the accepted events, step by step.
use Rattle.std.proofs.Common.{ℕ, zero, suc, ◌+◌, ◌-◌, ◌≤◌, ◌<◌, arith, ◌≡◌, refl, sym, ap, ap₂, subst, ◌∙◌, Bool, true, false, if◌then◌else◌, List, [], ◌∷◌, ◌++◌, append-nil, length, length-append, map, take, drop, Option, Some, None, option_map}
use Rattle.std.specs.List.{slice_get}
use Rattle.std.proofs.lemmas.List.{length-drop, length-map, length-take-le, take-append-drop, take-append-le}
use Rattle.std.proofs.lemmas.Option.{slice_get-map}
use Rattle.journal_model.specs.declared.invocation.NewInvocation.{NewInvocation}
use Rattle.journal_model.specs.Notification.{Bytes, Text, Arrival}
use Rattle.journal_model.specs.State.{StateMap}
use Rattle.journal_model.specs.Event.{Event}
use Rattle.journal_model.specs.Journal.{Entry, Recorded, Arrived, begins, invocation_begun, version_of, entries_of, recorded_arrivals}
use Rattle.journal_model.specs.Attempt.{Piece, begins_attempt, bytes_asked, acknowledged, notification_type, entry_piece, journal_pieces, input_pieces}
use Rattle.journal_model.specs.Cause.{IsAccepted}
use Rattle.input_laws.specs.ArrivalsRead.{arrivals_among}
use Rattle.input_laws.proofs.Events.{added_by, start_same, itself}
use Rattle.input_laws.proofs.Handed.{among-append, pieces_now, brought}
use Rattle.due_laws.specs.Rows.{frames_known, arrivals_known, with_outcome_noted, outcomes_noted, noted_number, outcomes_unread, as_told, later_piece}
use Rattle.due_laws.specs.InputParts.{ReadsRows, frames_whole}
use Rattle.due_laws.proofs.Rows.{all_known_stays, pieces_are_rows}
use Rattle.due_laws.proofs.Outcomes.{outcomes_are_read}
use Rattle.due_laws.proofs.InputParts.{rows_are_read, rows_tell, take_next}
use Rattle.store_live.specs.declared.input.FrameRead.{FrameRead}
use Rattle.store_live.specs.Input.{InputKept, at_begin, after_bytes, input_handed_out, with_frame, with_outcome_kept, with_rest}
use Rattle.store_model.specs.Places.{places_of_arrivals, journal_places, places_from, input_places}
use Rattle.store_live_laws.proofs.Counting.{same_count}
use Rattle.store_live_laws.specs.InputRows.{behind_place, place_after}
use Rattle.store_live_laws.specs.Memory.{IsInputOf, is_arrived, AllArrivalsAreTold}
use Rattle.store_live_laws.proofs.Places.{known_at_begin, handed_is_read}

-- ---- places behind an event

after_more : (n : ℕ) (xs ys : List ℕ) → n ≤ length xs → place_after n (xs ++ ys) ≡ place_after n xs
after_more zero xs ys low = refl
after_more (suc n) xs ys low = ap behind_place (get_more n xs ys low)
  where
    get_more : (n : ℕ) (xs ys : List ℕ) → suc n ≤ length xs → slice_get (xs ++ ys) n ≡ slice_get xs n
    get_more n [] ys low = absurd (omega (arith, low))
    get_more zero (x ∷ xs) ys low = refl
    get_more (suc n) (x ∷ xs) ys low = get_more n xs ys (omega (arith, low))

after_next : (n : ℕ) (xs : List ℕ) (place : ℕ) → slice_get xs n ≡ Some place → place + 1 ≡ place_after (n + 1) xs
after_next n xs place e =
    let same : n + 1 ≡ suc n = omega arith in
    sym (ap (λ (k : ℕ). place_after k xs) same ∙ ap behind_place e)

places_now : (events : List Event) (event : Event) (id : Text) → begins id event ≡ false → begins_attempt id event ≡ false
    → input_places (event ∷ events) id ≡ input_places events id ++ places_of_arrivals (1 + length (entries_of events id)) (added_by events id event)
places_now events event id old going =
    ap (λ (start : StateMap). places_from start (event ∷ events) id) (start_same event events id old)
    ∙ ap (λ (b : Bool). if b then journal_places (invocation_begun events id) (entries_of events id)
    else input_places events id ++ places_of_arrivals (1 + length (entries_of events id)) (added_by events id event)) going

whole_few : (read : ℕ) (rest : Bytes) → frames_whole read rest ≤ read
whole_few read [] = omega arith
whole_few read (x ∷ rest) = omega arith

-- ---- what stays where frames come behind

pub record Grown (events others : List Event) (id : Text) : Type 0 where
  pub pieces : List Piece
  pub pieces_are : input_pieces others id ≡ input_pieces events id ++ pieces
  pub places : List ℕ
  pub places_are : input_places others id ≡ input_places events id ++ places
  pub known : frames_known others id ≡ frames_known events id
  pub arrivals : arrivals_known others id ≡ arrivals_known events id

grows : (events : List Event) (event : Event) (id : Text) → begins id event ≡ false → begins_attempt id event ≡ false → Grown events (event ∷ events) id
grows events event id old going =
    let stay = all_known_stays events event id old going in record {
      pieces = brought events event id old going;
      pieces_are = pieces_now events event id old going;
      places = places_of_arrivals (1 + length (entries_of events id)) (added_by events id event);
      places_are = places_now events event id old going;
      known = stay.frames;
      arrivals = stay.arrivals;
    }

-- how many arrivals were read, or known at the begin
pub arrivals_read : (events : List Event) (id : Text) (m : InputKept) → IsAccepted events → IsInputOf events id m → m.arrivals + (m.read - m.known) ≤ length (recorded_arrivals events id)
arrivals_read events id m accepted was =
    let rows = pieces_are_rows events id accepted in
    let known = rows.known in
    let arrived = rows.arrived in
    let within = was.reads.within in
    let journal = journal_pieces (invocation_begun events id) (entries_of events id) in
    let later = map (later_piece (entries_of events id) (outcomes_noted events id)) (drop (arrivals_known events id) (recorded_arrivals events id)) in
    let all = ap (λ (pieces : List Piece). length pieces) rows.all ∙ length-append (take (frames_known events id) journal) later in
    let first = length-take-le (frames_known events id) journal known in
    let second = length-map (drop (arrivals_known events id) (recorded_arrivals events id)) (later_piece (entries_of events id) (outcomes_noted events id)) in
    let third = length-drop (arrivals_known events id) (recorded_arrivals events id) in
    let a = was.known in
    let b = was.arrivals in
    omega (arith, known, arrived, within, all, first, second, third, a, b)

module _ (events others : List Event) (id : Text) (m : InputKept) (grown : Grown events others id) (was : IsInputOf events id m) where
  taken : (n : ℕ) → n ≤ m.read → arrivals_among (take n (input_pieces others id)) ≡ arrivals_among (take n (input_pieces events id))
  taken n few =
      let within = was.reads.within in
      ap (λ (pieces : List Piece). arrivals_among (take n pieces)) grown.pieces_are
      ∙ ap arrivals_among (take-append-le n (input_pieces events id) grown.pieces (omega (arith, few, within)))

  placed : (n : ℕ) → n ≤ m.read → place_after n (input_places others id) ≡ place_after n (input_places events id)
  placed n few =
      let within = was.reads.within in
      let counts = same_count events id in
      ap (place_after n) grown.places_are ∙ after_more n (input_places events id) grown.places (omega (arith, few, within, counts))

  -- with the same rest
  keeps : ReadsRows others id m.read m.rest → (unread : List ℕ) (room : ℕ) → unread ≡ outcomes_unread others id (m.arrivals + (m.read - m.known))
      → IsInputOf others id (record m { unread = unread; room = room })
  keeps reads unread room e =
      let few = whole_few m.read m.rest in record {
        known = was.known ∙ sym grown.known;
        arrivals = was.arrivals ∙ sym grown.arrivals;
        reads = reads;
        behind = was.behind ∙ sym (placed m.read (omega arith));
        counted = was.counted ∙ sym (taken m.read (omega arith));
        handed =
            was.handed ∙ handed_is_read events id m.read m.rest was.reads ∙ sym (placed (frames_whole m.read m.rest) few)
            ∙ sym (handed_is_read others id m.read m.rest reads);
        heard =
            was.heard ∙ rows_tell.heard events id m.read m.rest was.reads ∙ sym (taken (frames_whole m.read m.rest) few)
            ∙ sym (rows_tell.heard others id m.read m.rest reads);
        unread = e;
      }

  -- with less of it
  hands_on : (x : ℕ) (bytes rest : Bytes) → m.rest ≡ (x ∷ bytes) ++ rest → ReadsRows others id m.read rest
      → m.unread ≡ outcomes_unread others id (m.arrivals + (m.read - m.known)) → IsInputOf others id (with_rest rest m)
  hands_on x bytes [] e reads f = record {
    known = was.known ∙ sym grown.known;
    arrivals = was.arrivals ∙ sym grown.arrivals;
    reads = reads;
    behind = was.behind ∙ sym (placed m.read (omega arith));
    counted = was.counted ∙ sym (taken m.read (omega arith));
    handed = was.behind ∙ sym (placed m.read (omega arith)) ∙ sym (handed_is_read others id m.read [] reads);
    heard = was.counted ∙ sym (taken m.read (omega arith)) ∙ sym (rows_tell.heard others id m.read [] reads);
    unread = f;
  }
  hands_on x bytes (y ∷ rest) e reads f =
      let same : frames_whole m.read m.rest ≡ m.read - 1 = ap (frames_whole m.read) e in record {
        known = was.known ∙ sym grown.known;
        arrivals = was.arrivals ∙ sym grown.arrivals;
        reads = reads;
        behind = was.behind ∙ sym (placed m.read (omega arith));
        counted = was.counted ∙ sym (taken m.read (omega arith));
        handed =
            was.handed ∙ handed_is_read events id m.read m.rest was.reads ∙ ap (λ (n : ℕ). place_after n (input_places events id)) same ∙ sym (placed (m.read - 1) (omega arith))
            ∙ sym (handed_is_read others id m.read (y ∷ rest) reads);
        heard =
            was.heard ∙ rows_tell.heard events id m.read m.rest was.reads ∙ ap (λ (n : ℕ). arrivals_among (take n (input_pieces events id))) same ∙ sym (taken (m.read - 1) (omega arith))
            ∙ sym (rows_tell.heard others id m.read (y ∷ rest) reads);
        unread = f;
      }

-- ---- step by step

pub input_begun : (events : List Event) (id : Text) (now : ℕ) → IsInputOf (Event.Begin id now ∷ events) id (at_begin (1 + length (entries_of events id)) (length (recorded_arrivals events id)))
input_begun events id now =
    let event = Event.Begin id now in
    let reads : ReadsRows (event ∷ events) id 0 [] = rows_are_read.begun events event id refl (itself id) in record {
      known = sym (known_at_begin events id now).0;
      arrivals = sym (known_at_begin events id now).1;
      reads = reads;
      behind = refl;
      counted = refl;
      handed = sym (handed_is_read (event ∷ events) id 0 [] reads);
      heard = sym (rows_tell.heard (event ∷ events) id 0 [] reads);
      unread = sym (outcomes_are_read.begun events event id refl (itself id) (length (recorded_arrivals events id) + (0 - (1 + length (entries_of events id)))));
    }

module _ (events : List Event) (event : Event) (id : Text) (m : InputKept) (accepted : IsAccepted (event ∷ events)) (old : begins id event ≡ false) (going : begins_attempt id event ≡ false)
    (asks : bytes_asked id event ≡ None) (was : IsInputOf events id m) where
  behind_them : (o : Option ℕ) → acknowledged (version_of events id) id event ≡ o → m.unread ++ with_outcome_noted o [] ≡ outcomes_unread (event ∷ events) id (m.arrivals + (m.read - m.known))
  behind_them o e =
      ap₂ (λ (some more : List ℕ). some ++ more) was.unread (ap (λ (one : Option ℕ). with_outcome_noted one []) (sym e))
      ∙ sym (outcomes_are_read.stays events event id accepted old going (m.arrivals + (m.read - m.known)) (arrivals_read events id m accepted.1 was))

  after : (o : Option ℕ) (room : ℕ) → acknowledged (version_of events id) id event ≡ o → IsInputOf (event ∷ events) id (record m { unread = m.unread ++ with_outcome_noted o []; room = room })
  after o room e =
      keeps events (event ∷ events) id m (grows events event id old going) was (rows_are_read.stays events event id m.read m.rest old going asks was.reads) (m.unread ++ with_outcome_noted o []) room
      (behind_them o e)

  pub input_stays : acknowledged (version_of events id) id event ≡ None → IsInputOf (event ∷ events) id m
  input_stays e = subst (λ (unread : List ℕ). IsInputOf (event ∷ events) id (record m { unread = unread })) (append-nil m.unread) (after None m.room e)

  pub input_notes : (n : ℕ) → acknowledged (version_of events id) id event ≡ Some n → IsInputOf (event ∷ events) id (with_outcome_kept n m)
  input_notes n e = after (Some n) 0 e

pub input_makes_room : (events : List Event) (id : Text) (m : InputKept) (room : ℕ) → IsInputOf events id m → IsInputOf events id (record m { room = room })
input_makes_room events id m room was = record {
  known = was.known;
  arrivals = was.arrivals;
  reads = was.reads;
  behind = was.behind;
  counted = was.counted;
  handed = was.handed;
  heard = was.heard;
  unread = was.unread;
}

-- bytes are handed out
pub input_hands : (events : List Event) (id : Text) (attempt most : ℕ) (m : InputKept) → IsAccepted (Event.Feed id attempt (length (take most m.rest)) ∷ events) → IsInputOf events id m
    → IsInputOf (Event.Feed id attempt (length (take most m.rest)) ∷ events) id (input_handed_out most m)
input_hands events id attempt most m accepted was = by_bytes (take most m.rest) (drop most m.rest) (sym (take-append-drop most m.rest)) accepted
  where
    by_bytes : (bytes rest : Bytes) → m.rest ≡ bytes ++ rest → IsAccepted (Event.Feed id attempt (length bytes) ∷ events)
        → IsInputOf (Event.Feed id attempt (length bytes) ∷ events) id (after_bytes bytes rest m)
    by_bytes [] rest e fine =
        let event = Event.Feed id attempt 0 in
        subst (λ (unread : List ℕ). IsInputOf (event ∷ events) id (record m { unread = unread })) (append-nil m.unread)
        (keeps events (event ∷ events) id m (grows events event id refl refl) was (rows_are_read.hands events id attempt m.read [] m.rest was.reads) (m.unread ++ []) m.room
        (ap (λ (some : List ℕ). some ++ []) was.unread ∙ sym (outcomes_are_read.stays events event id fine refl refl (m.arrivals + (m.read - m.known)) (arrivals_read events id m fine.1 was))))
    by_bytes (x ∷ bytes) rest e fine =
        let event = Event.Feed id attempt (length (x ∷ bytes)) in
        hands_on events (event ∷ events) id m (grows events event id refl refl) was x bytes rest e
        (rows_are_read.hands events id attempt m.read (x ∷ bytes) rest (subst (λ (all : Bytes). ReadsRows events id m.read all) e was.reads))
        (was.unread ∙ sym (outcomes_are_read.stays events event id fine refl refl (m.arrivals + (m.read - m.known)) (arrivals_read events id m fine.1 was)
        ∙ append-nil (outcomes_unread events id (m.arrivals + (m.read - m.known)))))

-- a frame is read, that of the next of the input's pieces at its place
pub input_reads : (events : List Event) (id : Text) (m : InputKept) (frame : FrameRead) (piece : Piece) → m.rest ≡ [] → slice_get (input_pieces events id) m.read ≡ Some piece
    → slice_get (input_places events id) m.read ≡ Some frame.place → piece.bytes ≡ frame.bytes → piece.is_arrival ≡ frame.is_arrival
    → (with_frame frame m).unread ≡ outcomes_unread events id (m.arrivals + ((m.read + 1) - m.known)) → IsInputOf events id m → IsInputOf events id (with_frame frame m)
input_reads events id m frame piece none e at bytes flag unread was = record {
  known = was.known;
  arrivals = was.arrivals;
  reads =
      subst (λ (some : Bytes). ReadsRows events id (m.read + 1) some) bytes
      (rows_are_read.next events id m.read piece e (subst (λ (rest : Bytes). ReadsRows events id m.read rest) none was.reads));
  behind = after_next m.read (input_places events id) frame.place at;
  counted =
      (let sum = among-append (take m.read (input_pieces events id)) (piece ∷ []) in
      let before = was.counted in
      let all : m.counted + (if piece.is_arrival then 1 else 0) ≡ arrivals_among (take m.read (input_pieces events id) ++ piece ∷ []) = omega (arith, sum, before) in
      ap (λ (b : Bool). m.counted + (if b then 1 else 0)) (sym flag) ∙ all)
      ∙ ap arrivals_among (sym (take_next (input_pieces events id) m.read piece e));
  handed =
      was.handed;
  heard = was.heard;
  unread = unread;
}

-- ---- which frames are arrivals'

entry_flags : (all entries : List Entry) → map (λ (piece : Piece). piece.is_arrival) (map (entry_piece all) entries) ≡ map is_arrived entries
entry_flags all [] = refl
entry_flags all (Recorded request ∷ entries) = ap (λ (rest : List Bool). false ∷ rest) (entry_flags all entries)
entry_flags all (Arrived arrival ∷ entries) = ap (λ (rest : List Bool). true ∷ rest) (entry_flags all entries)

journal_flags : (o : Option NewInvocation) (entries : List Entry) (k : ℕ) → k < length (journal_pieces o entries)
    → option_map (λ (piece : Piece). piece.is_arrival) (slice_get (journal_pieces o entries) k) ≡ slice_get (false ∷ map is_arrived entries) k
journal_flags None entries k low = absurd (omega (arith, low))
journal_flags (Some new) entries k low =
    sym (slice_get-map (λ (piece : Piece). piece.is_arrival) (journal_pieces (Some new) entries) k)
    ∙ ap (λ (rest : List Bool). slice_get (false ∷ rest) k) (entry_flags entries entries)

pub arrivals_are_told : AllArrivalsAreTold
arrivals_are_told events id accepted = record {
  at_begin = λ k low.
      let rows = pieces_are_rows events id accepted in
      let known = rows.known in
      ap (option_map (λ (piece : Piece). piece.is_arrival)) (rows.at_begin k low) ∙ journal_flags (invocation_begun events id) (entries_of events id) k (omega (arith, low, known));
  behind = λ k piece e. by_arrival piece (slice_get (recorded_arrivals events id) (arrivals_known events id + k)) (sym ((pieces_are_rows events id accepted).behind k) ∙ e);
}
  where
    told : (o : Option ℕ) (arrival : Arrival) → (as_told o (notification_type (entries_of events id) arrival.id) arrival).is_arrival ≡ true
    told None arrival = refl
    told (Some n) arrival = refl

    by_arrival : (piece : Piece) (o : Option Arrival) → option_map (later_piece (entries_of events id) (outcomes_noted events id)) o ≡ Some piece → piece.is_arrival ≡ true
    by_arrival piece None e = cc
    by_arrival piece (Some arrival) e =
        let same : later_piece (entries_of events id) (outcomes_noted events id) arrival ≡ piece = cc in
        ap (λ (p : Piece). p.is_arrival) (sym same) ∙ told (noted_number (outcomes_noted events id) arrival.id) arrival
