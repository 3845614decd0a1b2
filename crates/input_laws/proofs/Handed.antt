-- Which arrivals the last attempt of an invocation was handed whole, after one more event.
use Rattle.std.proofs.Common.{ℕ, zero, suc, ◌+◌, ◌-◌, ◌≤◌, ◌<◌, min, arith, nat_le, ◌≡◌, refl, sym, ap, ap₂, subst, ◌∙◌, Bool, true, false, true≢false, ◌||◌, ◌&&◌, if◌then◌else◌, List, [], ◌∷◌, ◌++◌, append_assoc, append-nil, length, length-append, take, map, Option, Some, None, bytes_eq, is_some}
use Rattle.std.proofs.lemmas.Bool.{leb-true, leb-false, lt-leb}
use Rattle.std.proofs.lemmas.List.{take-append-le}
use Rattle.protocol_types.specs.Feature.{has_feature}
use Rattle.protocol_types.specs.declared.feature.Feature.TheVariants.{Acknowledgement}
use Rattle.journal_model.specs.Notification.{Text, Arrival}
use Rattle.journal_model.specs.Value.{result_of_value}
use Rattle.journal_model.specs.State.{StateMap}
use Rattle.journal_model.specs.declared.invocation.NewInvocation.{NewInvocation}
use Rattle.journal_model.specs.Event.{Frame, Event}
use Rattle.journal_model.specs.Journal.{Entry, Recorded, Arrived, completion, is_of, is_tick, begins, invocation_begun, version_of, is_open, starting_state, arrivals_in, entries_of_event, entries_of, entries_from, entries_added, entries_after, recorded_arrivals}
use Rattle.journal_model.specs.Attempt.{Piece, begins_attempt, acknowledged, entry_piece, arrival_piece, journal_pieces, later_pieces, event_pieces, input_from, input_bytes, input_pieces, bytes_asked, handed_after, handed_from, bytes_handed, arrivals_within}
use Rattle.journal_model.specs.Cause.{causes_of, IsAccepted}
use Rattle.journal_model.specs.Headline.{arrivals_handed}
use Rattle.journal_laws.proofs.ObjectState.{open_when_accepted, begun_before}
use Rattle.input_laws.specs.ArrivalsRead.{arrivals_among}
use Rattle.input_laws.proofs.Events.{added_by, start_same, arrivals_now, entries_first, not_begun, unborn_open}

-- ---- frames that hold arrivals

abbrev pub AreFilled : List Piece → Type 0
AreFilled [] = Unit {0}
AreFilled (piece ∷ pieces) = (0 < length piece.bytes) × AreFilled pieces

pub among-append : (xs ys : List Piece) → arrivals_among (xs ++ ys) ≡ arrivals_among xs + arrivals_among ys
among-append [] ys = omega arith
among-append (x ∷ xs) ys = let later = among-append xs ys in omega arith

pub within-nothing : (pieces : List Piece) → AreFilled pieces → arrivals_within pieces 0 ≡ 0
within-nothing [] filled = refl
within-nothing (piece ∷ pieces) filled =
    let more : nat_le (length piece.bytes) 0 ≡ false = lt-leb (length piece.bytes) 0 filled.0 in
    rw more refl

pub within-more : (pieces more : List Piece) (count : ℕ) → count ≤ length (input_bytes pieces) → AreFilled more → arrivals_within (pieces ++ more) count ≡ arrivals_within pieces count
within-more [] more count low filled =
    let none : count ≡ 0 = omega arith in
    ap (arrivals_within more) none ∙ within-nothing more filled
within-more (piece ∷ pieces) more count low filled = by_test (nat_le (length piece.bytes) count) refl (λ l. within-more pieces more (count - length piece.bytes) l filled)
  where
    by_test : (t : Bool) → nat_le (length piece.bytes) count ≡ t
        → (count - length piece.bytes ≤ length (input_bytes pieces) → arrivals_within (pieces ++ more) (count - length piece.bytes) ≡ arrivals_within pieces (count - length piece.bytes))
        → (if t then (if piece.is_arrival then 1 else 0) + arrivals_within (pieces ++ more) (count - length piece.bytes) else 0)
        ≡ (if t then (if piece.is_arrival then 1 else 0) + arrivals_within pieces (count - length piece.bytes) else 0)
    by_test true e later =
        let below = leb-true (length piece.bytes) count e in
        let sum = length-append piece.bytes (input_bytes pieces) in
        ap (λ (n : ℕ). (if piece.is_arrival then 1 else 0) + n) (later (omega arith))
    by_test false e later = refl

pub within-among : (pieces : List Piece) (count : ℕ) → arrivals_within pieces count ≤ arrivals_among pieces
within-among [] count = omega arith
within-among (piece ∷ pieces) count = by_test (nat_le (length piece.bytes) count) (within-among pieces (count - length piece.bytes))
  where
    by_test : (t : Bool) → arrivals_within pieces (count - length piece.bytes) ≤ arrivals_among pieces
        → (if t then (if piece.is_arrival then 1 else 0) + arrivals_within pieces (count - length piece.bytes) else 0)
        ≤ (if piece.is_arrival then 1 else 0) + arrivals_among pieces
    by_test true later = omega arith
    by_test false later = omega arith

pub within-rises : (pieces : List Piece) (count most : ℕ) → count ≤ most → arrivals_within pieces count ≤ arrivals_within pieces most
within-rises [] count most low = omega arith
within-rises (piece ∷ pieces) count most low =
    by_tests (nat_le (length piece.bytes) count) refl (nat_le (length piece.bytes) most) refl
    (λ l. within-rises pieces (count - length piece.bytes) (most - length piece.bytes) l)
  where
    by_tests : (t : Bool) → nat_le (length piece.bytes) count ≡ t → (s : Bool) → nat_le (length piece.bytes) most ≡ s
        → (count - length piece.bytes ≤ most - length piece.bytes → arrivals_within pieces (count - length piece.bytes) ≤ arrivals_within pieces (most - length piece.bytes))
        → (if t then (if piece.is_arrival then 1 else 0) + arrivals_within pieces (count - length piece.bytes) else 0)
        ≤ (if s then (if piece.is_arrival then 1 else 0) + arrivals_within pieces (most - length piece.bytes) else 0)
    by_tests true e true f later =
        let low : arrivals_within pieces (count - length piece.bytes) ≤ arrivals_within pieces (most - length piece.bytes) = later (omega arith) in
        omega arith
    by_tests true e false f later =
        let a = leb-true (length piece.bytes) count e in
        let b = leb-false (length piece.bytes) most f in
        absurd (omega arith)
    by_tests false e s f later = omega arith

pub bytes_more : (pieces more : List Piece) → input_bytes (pieces ++ more) ≡ input_bytes pieces ++ input_bytes more
bytes_more [] more = refl
bytes_more (piece ∷ pieces) more = ap (λ (rest : List ℕ). piece.bytes ++ rest) (bytes_more pieces more) ∙ sym (append_assoc piece.bytes (input_bytes pieces) (input_bytes more))

pub take-rises : {A : Type 0} (n m : ℕ) (xs : List A) → n ≤ m → (rest : List A) × (take m xs ≡ take n xs ++ rest)
take-rises zero m xs low = (take m xs, refl)
take-rises {A} (suc n) m [] low = ([], take_none m)
  where
    take_none : (k : ℕ) → ◌≡◌ {A = List A} (take k []) []
    take_none zero = refl
    take_none (suc k) = refl
take-rises (suc n) zero (x ∷ xs) low = absurd (omega arith)
take-rises {A} (suc n) (suc m) (x ∷ xs) low =
    let (rest, e) = take-rises n m xs (omega arith) in
    (rest, ap (λ (some : List A). x ∷ some) e)

-- ---- the frames that an event brings

arrivals_filled : (all : List Entry) (arrivals : List Arrival) → AreFilled (map (arrival_piece all) arrivals)
arrivals_filled all [] = tt
arrivals_filled all (arrival ∷ arrivals) = (omega arith, arrivals_filled all arrivals)

later_filled : (all : List Entry) (o : Option ℕ) (arrivals : List Arrival) → AreFilled (later_pieces all o arrivals)
later_filled all None arrivals = arrivals_filled all arrivals
later_filled all (Some completion) arrivals = (omega arith, tt)

arrivals_count : (all : List Entry) (arrivals : List Arrival) → arrivals_among (map (arrival_piece all) arrivals) ≡ length arrivals
arrivals_count all [] = refl
arrivals_count all (arrival ∷ arrivals) = let later = arrivals_count all arrivals in omega arith

event_count : (start : StateMap) (earlier : List Event) (id : Text) (event : Event) (entries : List Entry)
    → arrivals_among (event_pieces start earlier id event entries) ≡ length (arrivals_in (entries_added start earlier id event entries))
event_count start earlier id (Event.Move other attempt (Frame.RunOutcome n value true)) entries =
    by_tests (entries_after start earlier id (Event.Move other attempt (Frame.RunOutcome n value true)) entries) (completion n (result_of_value value))
    (has_feature (version_of earlier id) Acknowledgement) (bytes_eq other id)
  where
    by_tests : (all : List Entry) (arrival : Arrival) (a b : Bool)
        → arrivals_among (later_pieces all (if a && b then Some n else None) (arrivals_in (if b || false then Arrived arrival ∷ [] else [])))
        ≡ length (arrivals_in (if b || false then Arrived arrival ∷ [] else []))
    by_tests all arrival true true = refl
    by_tests all arrival true false = refl
    by_tests all arrival false true = refl
    by_tests all arrival false false = refl
event_count start earlier id event entries =
    arrivals_count (entries_after start earlier id event entries) (arrivals_in (entries_added start earlier id event entries))

entries_count : (all entries : List Entry) → arrivals_among (map (entry_piece all) entries) ≡ length (arrivals_in entries)
entries_count all [] = refl
entries_count all (Recorded request ∷ entries) = let later = entries_count all entries in omega arith
entries_count all (Arrived arrival ∷ entries) = let later = entries_count all entries in omega arith

journal_count : (o : Option NewInvocation) (entries : List Entry) → is_some o ≡ true → arrivals_among (journal_pieces o entries) ≡ length (arrivals_in entries)
journal_count None entries e = absurd (true≢false (sym e))
journal_count (Some new) entries e = let later = entries_count entries entries in omega arith

-- ---- no more is handed out than there is

within_from : (start : StateMap) (events : List Event) (id : Text) → handed_from start events id ≤ length (input_bytes (input_from start events id))
within_from start [] id = omega arith
within_from start (event ∷ earlier) id = by_test (begins_attempt id event) (bytes_asked id event) (within_from start earlier id)
  where
    by_test : (b : Bool) (o : Option ℕ) → handed_from start earlier id ≤ length (input_bytes (input_from start earlier id))
        → (if b then 0 else handed_after o (handed_from start earlier id) (length (input_bytes (input_from start earlier id))))
        ≤ length (input_bytes (if b then journal_pieces (invocation_begun earlier id) (entries_from start earlier id)
        else input_from start earlier id ++ event_pieces start earlier id event (entries_from start earlier id)))
    by_test true o h = omega arith
    by_test false None h =
        let more = ap (λ (xs : List ℕ). length xs) (bytes_more (input_from start earlier id) (event_pieces start earlier id event (entries_from start earlier id))) in
        let sum = length-append (input_bytes (input_from start earlier id)) (input_bytes (event_pieces start earlier id event (entries_from start earlier id))) in
        omega arith
    by_test false (Some most) h =
        let more = ap (λ (xs : List ℕ). length xs) (bytes_more (input_from start earlier id) (event_pieces start earlier id event (entries_from start earlier id))) in
        let sum = length-append (input_bytes (input_from start earlier id)) (input_bytes (event_pieces start earlier id event (entries_from start earlier id))) in
        omega arith

pub handed_within : (events : List Event) (id : Text) → bytes_handed events id ≤ length (input_bytes (input_pieces events id))
handed_within events id = within_from (starting_state events id) events id

-- ---- each arrival has its frame

not-absurd : {A : Type 0} (b : Bool) → b ≡ true → b ≡ false → A
not-absurd b e f = absurd (true≢false (sym e ∙ f))

pub other_begins : (event : Event) (id : Text) → is_of id event ≡ false → begins_attempt id event ≡ false
other_begins (Event.Begin other now) id e = e
other_begins _ id e = refl

pub other_asks : (event : Event) (id : Text) → is_of id event ≡ false → bytes_asked id event ≡ None
other_asks (Event.Feed other attempt most) id e = rw e refl
other_asks _ id e = refl

pub other_answers : (version : ℕ) (event : Event) (id : Text) → is_of id event ≡ false → acknowledged version id event ≡ None
other_answers version (Event.Move other attempt (Frame.RunOutcome completion value true)) id e =
    ap (λ (b : Bool). if has_feature version Acknowledgement && b then Some completion else None) e ∙ neither (has_feature version Acknowledgement)
  where
    neither : (b : Bool) → ◌≡◌ {A = Option ℕ} (if b && false then Some completion else None) None
    neither true = refl
    neither false = refl
other_answers version _ id e = refl

pub quiet_pieces : (start : StateMap) (events : List Event) (id : Text) (event : Event) (entries : List Entry)
    → acknowledged (version_of events id) id event ≡ None → entries_added start events id event entries ≡ [] → event_pieces start events id event entries ≡ []
quiet_pieces start events id event entries e f =
    ap₂ (λ (o : Option ℕ) (added : List Entry). later_pieces (entries ++ added) o (arrivals_in added)) e f

unborn_added : (start : StateMap) (events : List Event) (id : Text) (event : Event) (entries : List Entry)
    → is_of id event ≡ false → is_open events id ≡ false → entries_added start events id event entries ≡ []
unborn_added start events id event entries e f = rw (e, f) (neither (is_tick event))
  where
    neither : (b : Bool) → (if b && false then entries_of_event start entries event else []) ≡ []
    neither true = refl
    neither false = refl

unborn_input : (start : StateMap) (event : Event) (earlier : List Event) (id : Text) → invocation_begun earlier id ≡ None
    → (is_of id event ≡ true → is_open earlier id ≡ true) → input_from start earlier id ≡ [] → input_from start (event ∷ earlier) id ≡ []
unborn_input start event earlier id unborn opened later = by_cases (is_of id event) refl
  where
    by_cases : (b : Bool) → is_of id event ≡ b → input_from start (event ∷ earlier) id ≡ []
    by_cases true f = not-absurd (is_open earlier id) (opened f) (unborn_open earlier id unborn)
    by_cases false f =
        rw (other_begins event id f) (ap₂ (λ (xs ys : List Piece). xs ++ ys) later
        (quiet_pieces start earlier id event (entries_from start earlier id) (other_answers (version_of earlier id) event id f)
        (unborn_added start earlier id event (entries_from start earlier id) f (unborn_open earlier id unborn))))

-- an invocation that was not begun has no input
pub no_input : (start : StateMap) (events : List Event) → IsAccepted events → (id : Text) → invocation_begun events id ≡ None → input_from start events id ≡ []
no_input start [] accepted id e = refl
no_input start (Event.Invoke new ∷ earlier) accepted id e = by_cases (bytes_eq new.id id) e (no_input start earlier accepted.1 id)
  where
    by_cases : (b : Bool) → (if b then Some new else invocation_begun earlier id) ≡ None → (invocation_begun earlier id ≡ None → input_from start earlier id ≡ [])
        → input_from start earlier id ++ map (arrival_piece (entries_from start earlier id ++ (if b || false then [] else []))) (arrivals_in (if b || false then [] else [])) ≡ []
    by_cases true e later = cc
    by_cases false e later = append-nil (input_from start earlier id) ∙ later e
no_input start (event ∷ earlier) accepted id e =
    unborn_input start event earlier id (sym (begun_before event earlier id refl) ∙ e)
    (λ f. open_when_accepted earlier event id refl f accepted.0)
    (no_input start earlier accepted.1 id (sym (begun_before event earlier id refl) ∙ e))

-- ---- after one more event that neither begins an invocation nor an attempt

module _ (events : List Event) (event : Event) (id : Text) (old : begins id event ≡ false) (going : begins_attempt id event ≡ false) where
  abbrev pub brought : List Piece
  brought = event_pieces (starting_state events id) events id event (entries_of events id)

  pub pieces_now : input_pieces (event ∷ events) id ≡ input_pieces events id ++ brought
  pieces_now =
      ap (λ (start : StateMap). input_from start (event ∷ events) id) (start_same event events id old)
      ∙ ap (λ (b : Bool). if b then journal_pieces (invocation_begun events id) (entries_of events id) else input_pieces events id ++ brought) going

  pub handed_now : bytes_handed (event ∷ events) id ≡ handed_after (bytes_asked id event) (bytes_handed events id) (length (input_bytes (input_pieces events id)))
  handed_now =
      ap (λ (start : StateMap). handed_from start (event ∷ events) id) (start_same event events id old)
      ∙ ap (λ (b : Bool). if b then 0 else handed_after (bytes_asked id event) (bytes_handed events id) (length (input_bytes (input_pieces events id)))) going

  pub brought_count : arrivals_among brought ≡ length (arrivals_in (added_by events id event))
  brought_count = event_count (starting_state events id) events id event (entries_of events id)

  pub brought_filled : AreFilled brought
  brought_filled =
      later_filled (entries_after (starting_state events id) events id event (entries_of events id)) (acknowledged (version_of events id) id event)
      (arrivals_in (added_by events id event))

pub begin_added : (events : List Event) (event : Event) (id : Text) → begins_attempt id event ≡ true → added_by events id event ≡ []
begin_added events (Event.Begin other now) id e = both (bytes_eq other id || false)
  where
    both : (b : Bool) → ◌≡◌ {A = List Entry} (if b then [] else []) []
    both true = refl
    both false = refl
begin_added events _ id e = absurd (true≢false (sym e))

pub first_input : (events : List Event) (event : Event) (id : Text) → IsAccepted (event ∷ events) → begins id event ≡ true → input_pieces (event ∷ events) id ≡ []
first_input events (Event.Invoke new) id accepted e =
    ap (λ (pieces : List Piece). pieces ++ event_pieces (starting_state (Event.Invoke new ∷ events) id) events id (Event.Invoke new) (entries_from (starting_state (Event.Invoke new ∷ events) id) events id))
    (no_input (starting_state (Event.Invoke new ∷ events) id) events accepted.1 id (not_begun (Event.Invoke new) events id accepted e))
    ∙ quiet_pieces (starting_state (Event.Invoke new ∷ events) id) events id (Event.Invoke new) (entries_from (starting_state (Event.Invoke new ∷ events) id) events id) refl
    (both (bytes_eq new.id id || false))
  where
    both : (b : Bool) → ◌≡◌ {A = List Entry} (if b then [] else []) []
    both true = refl
    both false = refl
first_input events event id accepted e = absurd (true≢false (sym e))

pub begun_is : (events : List Event) (event : Event) (id : Text) → begins_attempt id event ≡ true → causes_of events event ≡ [] → is_some (invocation_begun events id) ≡ true
begun_is events (Event.Begin other now) id e causes = is_begun (invocation_begun events id) refl
  where
    is_begun : (o : Option NewInvocation) → invocation_begun events id ≡ o → is_some o ≡ true
    is_begun (Some new) f = refl
    is_begun None f =
        not-absurd (is_open events id) (open_when_accepted events (Event.Begin other now) id refl e causes) (unborn_open events id f)
begun_is events _ id e causes = absurd (true≢false (sym e))

-- each recorded arrival has its frame in the input of the last attempt
pub counted : (events : List Event) → IsAccepted events → (id : Text) → arrivals_among (input_pieces events id) ≡ length (recorded_arrivals events id)
counted [] accepted id = refl
counted (event ∷ events) accepted id = by_begin (begins id event) refl (begins_attempt id event) refl (counted events accepted.1 id)
  where
    by_begin : (a : Bool) → begins id event ≡ a → (b : Bool) → begins_attempt id event ≡ b → arrivals_among (input_pieces events id) ≡ length (recorded_arrivals events id)
        → arrivals_among (input_pieces (event ∷ events) id) ≡ length (recorded_arrivals (event ∷ events) id)
    by_begin true e b f before =
        ap arrivals_among (first_input events event id accepted e)
        ∙ sym (ap (λ (entries : List Entry). length (arrivals_in entries)) (entries_first event events id accepted e))
    by_begin false e true f before =
        ap arrivals_among (ap (λ (start : StateMap). input_from start (event ∷ events) id) (start_same event events id e)
        ∙ ap (λ (b : Bool). if b then journal_pieces (invocation_begun events id) (entries_of events id)
        else input_pieces events id ++ event_pieces (starting_state events id) events id event (entries_of events id)) f)
        ∙ journal_count (invocation_begun events id) (entries_of events id) (begun_is events event id f accepted.0)
        ∙ ap (λ (arrivals : List Arrival). length arrivals) (sym (append-nil (recorded_arrivals events id))
        ∙ ap (λ (added : List Entry). recorded_arrivals events id ++ arrivals_in added) (sym (begin_added events event id f))
        ∙ sym (arrivals_now event events id e))
    by_begin false e false f before =
        ap arrivals_among (pieces_now events event id e f) ∙ among-append (input_pieces events id) (brought events event id e f)
        ∙ ap₂ (λ (m n : ℕ). m + n) before (brought_count events event id e f)
        ∙ sym (length-append (recorded_arrivals events id) (arrivals_in (added_by events id event)))
        ∙ ap length (sym (arrivals_now event events id e))

-- ---- the arrivals that were handed out

module _ (events : List Event) (event : Event) (id : Text) (accepted : IsAccepted events) (old : begins id event ≡ false) (going : begins_attempt id event ≡ false) where
  abbrev count_before : ℕ
  count_before = arrivals_within (input_pieces events id) (bytes_handed events id)

  abbrev count_now : ℕ
  count_now = arrivals_within (input_pieces (event ∷ events) id) (bytes_handed (event ∷ events) id)

  abbrev in_all : ℕ
  in_all = length (input_bytes (input_pieces events id))

  counts_within : (handed : ℕ) → handed ≤ in_all → bytes_handed (event ∷ events) id ≡ handed → count_now ≡ arrivals_within (input_pieces events id) handed
  counts_within handed low e =
      ap₂ arrivals_within (pieces_now events event id old going) e
      ∙ within-more (input_pieces events id) (brought events event id old going) handed low (brought_filled events event id old going)

  taken_within : (handed : ℕ) → handed ≤ in_all → bytes_handed (event ∷ events) id ≡ handed
      → arrivals_handed (event ∷ events) id ≡ take (arrivals_within (input_pieces events id) handed) (recorded_arrivals events id)
  taken_within handed low e =
      ap₂ (λ (n : ℕ) (arrivals : List Arrival). take n arrivals) (counts_within handed low e) (arrivals_now event events id old)
      ∙ take-append-le (arrivals_within (input_pieces events id) handed) (recorded_arrivals events id) (arrivals_in (added_by events id event))
      (subst (λ (n : ℕ). arrivals_within (input_pieces events id) handed ≤ n) (counted events accepted id) (within-among (input_pieces events id) handed))

  -- an event that asks for no bytes hands none out
  pub handed_same : bytes_asked id event ≡ None → arrivals_handed (event ∷ events) id ≡ arrivals_handed events id
  handed_same asks =
      taken_within (bytes_handed events id) (handed_within events id)
      (handed_now events event id old going ∙ ap (λ (o : Option ℕ). handed_after o (bytes_handed events id) in_all) asks)

  -- an event may hand out more
  pub handed_more : (rest : List Arrival) × (arrivals_handed (event ∷ events) id ≡ arrivals_handed events id ++ rest)
  handed_more = by_asked (bytes_asked id event) refl
    where
      by_asked : (o : Option ℕ) → bytes_asked id event ≡ o → (rest : List Arrival) × (arrivals_handed (event ∷ events) id ≡ arrivals_handed events id ++ rest)
      by_asked None e = ([], handed_same e ∙ sym (append-nil (arrivals_handed events id)))
      by_asked (Some most) e =
          let handed = min (bytes_handed events id + most) in_all in
          let within = handed_within events id in
          let now : bytes_handed (event ∷ events) id ≡ handed = handed_now events event id old going ∙ ap (λ (o : Option ℕ). handed_after o (bytes_handed events id) in_all) e in
          let (rest, more) = take-rises (arrivals_within (input_pieces events id) (bytes_handed events id)) (arrivals_within (input_pieces events id) handed) (recorded_arrivals events id)
          (within-rises (input_pieces events id) (bytes_handed events id) handed (omega arith)) in
          (rest, taken_within handed (omega arith) now ∙ more)

-- a new attempt was handed nothing
pub handed_begun : (events : List Event) (event : Event) (id : Text) → begins id event ≡ false → begins_attempt id event ≡ true → arrivals_handed (event ∷ events) id ≡ []
handed_begun events event id old e =
    ap (λ (n : ℕ). take n (recorded_arrivals (event ∷ events) id)) (none_within ∙ within-nothing (journal_pieces (invocation_begun events id) (entries_of events id)) (journal_filled (invocation_begun events id)))
    ∙ take_none (recorded_arrivals (event ∷ events) id)
  where
    take_none : (arrivals : List Arrival) → take 0 arrivals ≡ []
    take_none arrivals = refl

    entries_filled : (entries : List Entry) → AreFilled (map (entry_piece (entries_of events id)) entries)
    entries_filled [] = tt
    entries_filled (Recorded request ∷ entries) = (omega arith, entries_filled entries)
    entries_filled (Arrived arrival ∷ entries) = (omega arith, entries_filled entries)

    journal_filled : (o : Option NewInvocation) → AreFilled (journal_pieces o (entries_of events id))
    journal_filled None = tt
    journal_filled (Some new) = (omega arith, entries_filled (entries_of events id))

    none_within : arrivals_within (input_pieces (event ∷ events) id) (bytes_handed (event ∷ events) id)
        ≡ arrivals_within (journal_pieces (invocation_begun events id) (entries_of events id)) 0
    none_within =
        ap (λ (start : StateMap). arrivals_within (input_from start (event ∷ events) id) (handed_from start (event ∷ events) id)) (start_same event events id old)
        ∙ rw e refl
