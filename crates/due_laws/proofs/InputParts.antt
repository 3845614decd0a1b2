-- What is handed out in pieces is what would be handed out at once.
use Rattle.std.proofs.Common.{ℕ, zero, suc, ◌+◌, ◌-◌, ◌≤◌, ◌<◌, min, arith, nat_le, ◌≡◌, refl, sym, ap, ap₂, subst, ◌∙◌, Bool, true, false, ◌||◌, if◌then◌else◌, List, [], ◌∷◌, ◌++◌, append-nil, append_assoc, length, length-append, length-drop, map, take, drop, drop-drop, Option, Some, None, bytes_eq, ◌⊎◌, inl, inr}
use Rattle.std.specs.List.{slice_get}
use Rattle.std.proofs.lemmas.Bool.{le-leb, lt-leb}
use Rattle.std.proofs.lemmas.List.{length-take, take-append-le, drop-append-le, drop_min, take-append-drop}
use Rattle.std.proofs.Math.Seq.{take-append_seam, drop-append_seam}
use Rattle.journal_model.specs.declared.invocation.NewInvocation.{NewInvocation}
use Rattle.journal_model.specs.Notification.{Bytes, Text, Arrival}
use Rattle.journal_model.specs.State.{StateMap}
use Rattle.journal_model.specs.Event.{Event}
use Rattle.journal_model.specs.Journal.{Entry, Recorded, Arrived, begins, invocation_begun, version_of, starting_state, arrivals_in, entries_from, entries_of, entries_added, entries_after}
use Rattle.journal_model.specs.Attempt.{Piece, begins_attempt, acknowledged, arrival_piece, entry_piece, journal_pieces, later_pieces, event_pieces, input_from, input_bytes, input_pieces, bytes_asked, handed_after, handed_from, bytes_handed, input_left, arrivals_within}
use Rattle.input_laws.specs.ArrivalsRead.{arrivals_among}
use Rattle.input_laws.proofs.Events.{itself, start_same}
use Rattle.input_laws.proofs.Handed.{AreFilled, bytes_more, brought, pieces_now, handed_now, handed_within, quiet_pieces}
use Rattle.due_laws.specs.Awake.{arrivals_heard}
use Rattle.due_laws.specs.InputParts.{HandsPart, PartIsTaken, TakenIsPart, HandsAlike, GivenIsAsked, CountIsUnseen, PartIsHanded, ChainsAreOne, IsEndOf, ReadsRows, frames_whole, RowsAreRead, RowsTell}

-- ---- beginnings

take_front : (n : ℕ) (xs ys : Bytes) → n ≡ length xs → take n (xs ++ ys) ≡ xs
take_front n xs ys e = ap (λ (m : ℕ). take m (xs ++ ys)) e ∙ take-append_seam xs ys

drop_front : (n : ℕ) (xs ys : Bytes) → n ≡ length xs → drop n (xs ++ ys) ≡ ys
drop_front n xs ys e = ap (λ (m : ℕ). drop m (xs ++ ys)) e ∙ drop-append_seam xs ys

pub part_is_taken : PartIsTaken
part_is_taken left bytes most part = sym (ap (take (length bytes)) part.beginning ∙ take-append_seam bytes part.rest)

pub taken_is_part : TakenIsPart
taken_is_part left most = record {
  rest = drop most left;
  beginning = sym (take-append-drop most left);
  few = (let count = length-take most left in omega (arith, count));
  none = by_cases most left;
}
  where
    by_cases : (most : ℕ) (left : Bytes) → take most left ≡ [] → (most ≡ 0) ⊎ (left ≡ [])
    by_cases zero left e = inl refl
    by_cases (suc n) [] e = inr refl
    by_cases (suc n) (x ∷ left) e = cc

-- ---- one event

no_more : {A : Type 0} (b : Bool) → ◌≡◌ {A = List A} (if b then [] else []) []
no_more true = refl
no_more false = refl

module _ (events : List Event) (id : Text) (attempt count : ℕ) where
  abbrev handing : Event
  handing = Event.Feed id attempt count

  asks_own : bytes_asked id (Event.Feed id attempt count) ≡ Some count
  asks_own = ap (λ (b : Bool). if b then Some count else None) (itself id)

  pub pieces_same : input_pieces (Event.Feed id attempt count ∷ events) id ≡ input_pieces events id
  pieces_same =
      pieces_now events (Event.Feed id attempt count) id refl refl
      ∙ ap (λ (more : List Piece). input_pieces events id ++ more)
      (quiet_pieces (starting_state events id) events id (Event.Feed id attempt count) (entries_of events id) refl (no_more (bytes_eq id id || false)))
      ∙ append-nil (input_pieces events id)

  pub handed_count : bytes_handed (Event.Feed id attempt count ∷ events) id ≡ min (bytes_handed events id + count) (length (input_bytes (input_pieces events id)))
  handed_count =
      handed_now events (Event.Feed id attempt count) id refl refl
      ∙ ap (λ (o : Option ℕ). handed_after o (bytes_handed events id) (length (input_bytes (input_pieces events id)))) asks_own

  pub left_count : input_left (Event.Feed id attempt count ∷ events) id ≡ drop count (input_left events id)
  left_count =
      ap₂ (λ (n : ℕ) (pieces : List Piece). drop n (input_bytes pieces)) handed_count pieces_same
      ∙ drop_min (bytes_handed events id + count) (input_bytes (input_pieces events id))
      ∙ sym (drop-drop count (bytes_handed events id) (input_bytes (input_pieces events id)))

left_length : (events : List Event) (id : Text) → bytes_handed events id + length (input_left events id) ≡ length (input_bytes (input_pieces events id))
left_length events id =
    let within = handed_within events id in
    let left = length-drop (bytes_handed events id) (input_bytes (input_pieces events id)) in
    omega (arith, within, left)

alike_from : (events others : List Event) (id : Text) → bytes_handed events id ≡ bytes_handed others id → input_pieces events id ≡ input_pieces others id → HandsAlike events others id
alike_from events others id handed pieces = record {
  handed = handed;
  pieces = pieces;
  left = ap₂ (λ (n : ℕ) (some : List Piece). drop n (input_bytes some)) handed pieces;
  heard = ap₂ (λ (n : ℕ) (some : List Piece). arrivals_within some n) handed pieces;
}

pub given_is_asked : GivenIsAsked
given_is_asked events id attempt most =
    alike_from (Event.Feed id attempt (length (take most (input_left events id))) ∷ events) (Event.Feed id attempt most ∷ events) id
    (let given = handed_count events id attempt (length (take most (input_left events id))) in
    let asked = handed_count events id attempt most in
    let count = length-take most (input_left events id) in
    let all = left_length events id in
    omega (arith, given, asked, count, all))
    (pieces_same events id attempt (length (take most (input_left events id))) ∙ sym (pieces_same events id attempt most))

pub count_is_unseen : CountIsUnseen
count_is_unseen events id attempt asked given = refl

pub part_is_handed : PartIsHanded
part_is_handed events id attempt most bytes part = record {
  handed =
      let count = handed_count events id attempt (length bytes) in
      let all = left_length events id in
      let sum = ap (λ (some : Bytes). length some) part.beginning ∙ length-append bytes part.rest in
      omega (arith, count, all, sum);
  pieces = pieces_same events id attempt (length bytes);
  left =
      ap (λ (some : Bytes). bytes ++ some) (left_count events id attempt (length bytes) ∙ ap (drop (length bytes)) part.beginning ∙ drop-append_seam bytes part.rest)
      ∙ sym part.beginning;
}

-- ---- many events

take_none : (n : ℕ) → ◌≡◌ {A = Bytes} (take n []) []
take_none zero = refl
take_none (suc n) = refl

take_more : (n m : ℕ) (xs ys : Bytes) → length xs + m ≡ n → take n (xs ++ ys) ≡ xs ++ take m ys
take_more n m [] ys e = let same : n ≡ m = omega (arith, e) in ap (λ (k : ℕ). take k ys) same
take_more zero m (x ∷ xs) ys e = absurd (omega (arith, e))
take_more (suc n) m (x ∷ xs) ys e = ap (λ (rest : Bytes). x ∷ rest) (take_more n m xs ys (omega (arith, e)))

pub chains_are_one : ChainsAreOne
chains_are_one id attempt count [] old new (ended, same) = record {
  taken = by_end ended;
  alike =
      alike_from new (Event.Feed id attempt count ∷ old) id
      (ap (λ (es : List Event). bytes_handed es id) same
      ∙ (let all = left_length old id in let asked = handed_count old id attempt count in by_count ended all asked))
      (ap (λ (es : List Event). input_pieces es id) same ∙ sym (pieces_same old id attempt count));
}
  where
    by_end : (count ≡ 0) ⊎ (input_left old id ≡ []) → ◌≡◌ {A = Bytes} [] (take count (input_left old id))
    by_end (inl e) = sym (ap (λ (n : ℕ). take n (input_left old id)) e)
    by_end (inr e) = sym (ap (take count) e ∙ take_none count)

    by_count : (count ≡ 0) ⊎ (input_left old id ≡ []) → bytes_handed old id + length (input_left old id) ≡ length (input_bytes (input_pieces old id))
        → bytes_handed (Event.Feed id attempt count ∷ old) id ≡ min (bytes_handed old id + count) (length (input_bytes (input_pieces old id)))
        → bytes_handed old id ≡ bytes_handed (Event.Feed id attempt count ∷ old) id
    by_count (inl e) all asked = omega (arith, e, all, asked)
    by_count (inr e) all asked = let none = ap (λ (some : Bytes). length some) e in omega (arith, none, all, asked)
chains_are_one id attempt count (bytes ∷ parts) old new (part, chain) =
    let one : List Event = Event.Feed id attempt (length bytes) ∷ old in
    let rest = chains_are_one id attempt (count - length bytes) parts (Event.Feed id attempt (length bytes) ∷ old) new chain in
    let after = part_is_handed old id attempt count bytes part in
    let few = part.few in record {
      taken =
          ap (λ (some : Bytes). bytes ++ some) rest.taken
          ∙ sym (take_more count (count - length bytes) bytes (input_left (Event.Feed id attempt (length bytes) ∷ old) id) (omega (arith, few)))
          ∙ ap (take count) after.left;
      alike =
          alike_from new (Event.Feed id attempt count ∷ old) id
          (let all = left_length old id in
          let asked = handed_count old id attempt count in
          let more = handed_count (Event.Feed id attempt (length bytes) ∷ old) id attempt (count - length bytes) in
          let same = rest.alike.handed in
          let total = ap (λ (pieces : List Piece). length (input_bytes pieces)) after.pieces in
          let handed = after.handed in
          omega (arith, all, asked, more, same, total, handed, few))
          (rest.alike.pieces ∙ pieces_same (Event.Feed id attempt (length bytes) ∷ old) id attempt (count - length bytes) ∙ after.pieces ∙ sym (pieces_same old id attempt count));
    }

-- ---- no frame is empty

filled-append : (xs ys : List Piece) → AreFilled xs → AreFilled ys → AreFilled (xs ++ ys)
filled-append [] ys a b = b
filled-append (x ∷ xs) ys a b = (a.0, filled-append xs ys a.1 b)

arrivals_filled : (all : List Entry) (arrivals : List Arrival) → AreFilled (map (arrival_piece all) arrivals)
arrivals_filled all [] = tt
arrivals_filled all (arrival ∷ arrivals) = (omega arith, arrivals_filled all arrivals)

later_filled : (all : List Entry) (o : Option ℕ) (arrivals : List Arrival) → AreFilled (later_pieces all o arrivals)
later_filled all None arrivals = arrivals_filled all arrivals
later_filled all (Some completion) arrivals = (omega arith, tt)

entries_filled : (all entries : List Entry) → AreFilled (map (entry_piece all) entries)
entries_filled all [] = tt
entries_filled all (Recorded request ∷ entries) = (omega arith, entries_filled all entries)
entries_filled all (Arrived arrival ∷ entries) = (omega arith, entries_filled all entries)

journal_filled : (o : Option NewInvocation) (entries : List Entry) → AreFilled (journal_pieces o entries)
journal_filled None entries = tt
journal_filled (Some new) entries = (omega arith, entries_filled entries entries)

input_filled : (start : StateMap) (events : List Event) (id : Text) → AreFilled (input_from start events id)
input_filled start [] id = tt
input_filled start (event ∷ earlier) id = by_begin (begins_attempt id event) (input_filled start earlier id)
  where
    by_begin : (b : Bool) → AreFilled (input_from start earlier id)
        → AreFilled (if b then journal_pieces (invocation_begun earlier id) (entries_from start earlier id)
        else input_from start earlier id ++ event_pieces start earlier id event (entries_from start earlier id))
    by_begin true before = journal_filled (invocation_begun earlier id) (entries_from start earlier id)
    by_begin false before =
        filled-append (input_from start earlier id) (event_pieces start earlier id event (entries_from start earlier id)) before
        (later_filled (entries_after start earlier id event (entries_from start earlier id)) (acknowledged (version_of earlier id) id event)
        (arrivals_in (entries_added start earlier id event (entries_from start earlier id))))

filled_at : (pieces : List Piece) (k : ℕ) (piece : Piece) → AreFilled pieces → slice_get pieces k ≡ Some piece → 0 < length piece.bytes
filled_at [] k piece filled e = cc
filled_at (p ∷ pieces) zero piece filled e = let same : p ≡ piece = cc in subst (λ (q : Piece). 0 < length q.bytes) same filled.0
filled_at (p ∷ pieces) (suc k) piece filled e = filled_at pieces k piece filled.1 e

first_byte : (bytes : Bytes) → 0 < length bytes → (x : ℕ) × (more : Bytes) × (bytes ≡ x ∷ more)
first_byte [] h = absurd (omega (arith, h))
first_byte (x ∷ more) h = (x, more, refl)

-- ---- by the row

drop_next : (pieces : List Piece) (k : ℕ) (piece : Piece) → slice_get pieces k ≡ Some piece → drop k pieces ≡ piece ∷ drop (k + 1) pieces
drop_next [] k piece e = cc
drop_next (p ∷ pieces) zero piece e = let same : p ≡ piece = cc in ap (λ (q : Piece). q ∷ pieces) same
drop_next (p ∷ pieces) (suc k) piece e =
    let one : suc k + 1 ≡ suc (k + 1) = omega arith in
    drop_next pieces k piece e ∙ ap (λ (n : ℕ). piece ∷ drop n (p ∷ pieces)) (sym one)

pub take_next : (pieces : List Piece) (k : ℕ) (piece : Piece) → slice_get pieces k ≡ Some piece → take (k + 1) pieces ≡ take k pieces ++ piece ∷ []
take_next [] k piece e = cc
take_next (p ∷ pieces) zero piece e = let same : p ≡ piece = cc in ap (λ (q : Piece). q ∷ []) same
take_next (p ∷ pieces) (suc k) piece e =
    let one : suc k + 1 ≡ suc (k + 1) = omega arith in
    ap (λ (n : ℕ). take n (p ∷ pieces)) one ∙ ap (λ (rest : List Piece). p ∷ rest) (take_next pieces k piece e)

get_within : (pieces : List Piece) (k : ℕ) (piece : Piece) → slice_get pieces k ≡ Some piece → k + 1 ≤ length pieces
get_within [] k piece e = cc
get_within (p ∷ pieces) zero piece e = omega arith
get_within (p ∷ pieces) (suc k) piece e = let later = get_within pieces k piece e in omega (arith, later)

get_past : (pieces : List Piece) (k : ℕ) → slice_get pieces k ≡ None → drop k pieces ≡ []
get_past [] zero e = refl
get_past [] (suc k) e = refl
get_past (p ∷ pieces) zero e = cc
get_past (p ∷ pieces) (suc k) e = get_past pieces k e

rows_begun : (events : List Event) (event : Event) (id : Text) → begins id event ≡ false → begins_attempt id event ≡ true → ReadsRows (event ∷ events) id 0 []
rows_begun events event id old e = record {
  within = omega arith;
  left = ap (λ (n : ℕ). drop n (input_bytes (input_pieces (event ∷ events) id))) nothing;
  part = inl refl;
}
  where
    nothing : bytes_handed (event ∷ events) id ≡ 0
    nothing = ap (λ (start : StateMap). handed_from start (event ∷ events) id) (start_same event events id old) ∙ rw e refl

rows_stay : (events : List Event) (event : Event) (id : Text) (read : ℕ) (rest : Bytes) → begins id event ≡ false → begins_attempt id event ≡ false → bytes_asked id event ≡ None
    → ReadsRows events id read rest → ReadsRows (event ∷ events) id read rest
rows_stay events event id read rest old going asks was = record {
  within =
      let all = ap (λ (pieces : List Piece). length pieces) (pieces_now events event id old going) ∙ length-append (input_pieces events id) (brought events event id old going) in
      let before = was.within in
      omega (arith, all, before);
  left =
      let left_grown : input_left (event ∷ events) id ≡ input_left events id ++ input_bytes (brought events event id old going) =
      ap₂ (λ (n : ℕ) (bytes : Bytes). drop n bytes)
      (handed_now events event id old going ∙ ap (λ (o : Option ℕ). handed_after o (bytes_handed events id) (length (input_bytes (input_pieces events id)))) asks)
      (ap input_bytes (pieces_now events event id old going) ∙ bytes_more (input_pieces events id) (brought events event id old going))
      ∙ drop-append-le (bytes_handed events id) (input_bytes (input_pieces events id)) (input_bytes (brought events event id old going)) (handed_within events id) in
      left_grown ∙ ap (λ (bytes : Bytes). bytes ++ input_bytes (brought events event id old going)) was.left
      ∙ append_assoc rest (input_bytes (drop read (input_pieces events id))) (input_bytes (brought events event id old going))
      ∙ ap (λ (bytes : Bytes). rest ++ bytes)
      (sym (bytes_more (drop read (input_pieces events id)) (brought events event id old going))
      ∙ ap input_bytes (sym (drop-append-le read (input_pieces events id) (brought events event id old going) was.within))
      ∙ ap (λ (pieces : List Piece). input_bytes (drop read pieces)) (sym (pieces_now events event id old going)));
  part = by_part was.part;
}
  where
    same : take read (input_pieces events id) ≡ take read (input_pieces (event ∷ events) id)
    same = sym (ap (take read) (pieces_now events event id old going) ∙ take-append-le read (input_pieces events id) (brought events event id old going) was.within)

    by_part : (rest ≡ []) ⊎ IsEndOf rest (take read (input_pieces events id)) → (rest ≡ []) ⊎ IsEndOf rest (take read (input_pieces (event ∷ events) id))
    by_part (inl e) = inl e
    by_part (inr end) = inr (subst (λ (pieces : List Piece). IsEndOf rest pieces) same end)

rows_next : (events : List Event) (id : Text) (read : ℕ) (piece : Piece) → slice_get (input_pieces events id) read ≡ Some piece → ReadsRows events id read []
    → ReadsRows events id (read + 1) piece.bytes
rows_next events id read piece e was = record {
  within = get_within (input_pieces events id) read piece e;
  left = was.left ∙ ap input_bytes (drop_next (input_pieces events id) read piece e);
  part = inr (record { before = take read (input_pieces events id); last = piece; done = []; pieces_are = take_next (input_pieces events id) read piece e; bytes_are = refl });
}

rows_hand : (events : List Event) (id : Text) (attempt read : ℕ) (bytes rest : Bytes) → ReadsRows events id read (bytes ++ rest)
    → ReadsRows (Event.Feed id attempt (length bytes) ∷ events) id read rest
rows_hand events id attempt read bytes rest was = record {
  within = subst (λ (pieces : List Piece). read ≤ length pieces) (sym same) was.within;
  left =
      left_count events id attempt (length bytes)
      ∙ ap (drop (length bytes)) (was.left ∙ append_assoc bytes rest (input_bytes (drop read (input_pieces events id))))
      ∙ drop-append_seam bytes (rest ++ input_bytes (drop read (input_pieces events id)))
      ∙ ap (λ (pieces : List Piece). rest ++ input_bytes (drop read pieces)) (sym same);
  part = by_part was.part;
}
  where
    same : input_pieces (Event.Feed id attempt (length bytes) ∷ events) id ≡ input_pieces events id
    same = pieces_same events id attempt (length bytes)

    second_none : (xs ys : Bytes) → xs ++ ys ≡ [] → ys ≡ []
    second_none [] ys e = e
    second_none (x ∷ xs) ys e = cc

    by_part : ((bytes ++ rest) ≡ []) ⊎ IsEndOf (bytes ++ rest) (take read (input_pieces events id))
        → (rest ≡ []) ⊎ IsEndOf rest (take read (input_pieces (Event.Feed id attempt (length bytes) ∷ events) id))
    by_part (inl e) = inl (second_none bytes rest e)
    by_part (inr end) = inr (record {
      before = end.before;
      last = end.last;
      done = end.done ++ bytes;
      pieces_are = ap (take read) same ∙ end.pieces_are;
      bytes_are = end.bytes_are ∙ sym (append_assoc end.done bytes rest);
    })

pub rows_are_read : RowsAreRead
rows_are_read = record { begun = rows_begun; stays = rows_stay; next = rows_next; hands = rows_hand }

-- ---- what it tells

within_read : (read unread : List Piece) (n : ℕ) → arrivals_within (read ++ unread) (length (input_bytes read) + n) ≡ arrivals_among read + arrivals_within unread n
within_read [] unread n =
    let same : 0 + n ≡ n = omega arith in
    ap (arrivals_within unread) same ∙ (let back : arrivals_within unread n ≡ 0 + arrivals_within unread n = omega arith in back)
within_read (piece ∷ read) unread n =
    let sum = length-append piece.bytes (input_bytes read) in
    let all : nat_le (length piece.bytes) (length (piece.bytes ++ input_bytes read) + n) ≡ true = le-leb (length piece.bytes) (length (piece.bytes ++ input_bytes read) + n) (omega arith) in
    let rest : (length (piece.bytes ++ input_bytes read) + n) - length piece.bytes ≡ length (input_bytes read) + n = omega arith in
    let later = within_read read unread n in
    let now : arrivals_within (read ++ unread) ((length (piece.bytes ++ input_bytes read) + n) - length piece.bytes) ≡ arrivals_among read + arrivals_within unread n = ap (arrivals_within (read ++ unread)) rest ∙ later in
    rw all (ap (λ (m : ℕ). (if piece.is_arrival then 1 else 0) + m) now
    ∙ (let back : (if piece.is_arrival then 1 else 0) + (arrivals_among read + arrivals_within unread n) ≡ ((if piece.is_arrival then 1 else 0) + arrivals_among read) + arrivals_within unread n = omega arith in back))

-- the arrivals of whole frames, where of the others so many bytes were handed out and those are no whole frame
counted_by : (events : List Event) (id : Text) (done : Bytes) (whole others : List Piece) → input_pieces events id ≡ whole ++ others → done ++ input_left events id ≡ input_bytes others
    → arrivals_within others (length done) ≡ 0 → arrivals_heard events id ≡ arrivals_among whole
counted_by events id done whole others e f none =
    let total : length (input_bytes (input_pieces events id)) ≡ length (input_bytes whole) + length (input_bytes others) =
    ap (λ (pieces : List Piece). length (input_bytes pieces)) e ∙ ap (λ (bytes : Bytes). length bytes) (bytes_more whole others) ∙ length-append (input_bytes whole) (input_bytes others) in
    let sum = ap (λ (bytes : Bytes). length bytes) f in
    let both = length-append done (input_left events id) in
    let all = left_length events id in
    let handed : bytes_handed events id ≡ length (input_bytes whole) + length done = omega (arith, total, sum, both, all) in
    ap₂ arrivals_within e handed ∙ within_read whole others (length done) ∙ (let last : arrivals_among whole + arrivals_within others (length done) ≡ arrivals_among whole = omega (arith, none) in last)

none_of_nothing : (pieces : List Piece) → AreFilled pieces → arrivals_within pieces 0 ≡ 0
none_of_nothing [] filled = refl
none_of_nothing (piece ∷ pieces) filled = let more : nat_le (length piece.bytes) 0 ≡ false = lt-leb (length piece.bytes) 0 filled.0 in rw more refl

filled_drop : (n : ℕ) (pieces : List Piece) → AreFilled pieces → AreFilled (drop n pieces)
filled_drop zero pieces filled = filled
filled_drop (suc n) [] filled = tt
filled_drop (suc n) (piece ∷ pieces) filled = filled_drop n pieces filled.1

front_of : (before : List Piece) (last : Piece) (more : List Piece) (n : ℕ) → n ≡ length before + 1 → take (n - 1) ((before ++ last ∷ []) ++ more) ≡ before
front_of before last more n e =
    let same : n - 1 ≡ length before = omega (arith, e) in
    ap₂ (λ (k : ℕ) (pieces : List Piece). take k pieces) same (append_assoc before (last ∷ []) more) ∙ take-append_seam before (last ∷ more)

rows_heard : (events : List Event) (id : Text) (read : ℕ) (rest : Bytes) → ReadsRows events id read rest
    → arrivals_heard events id ≡ arrivals_among (take (frames_whole read rest) (input_pieces events id))
rows_heard events id read [] was =
    counted_by events id [] (take read (input_pieces events id)) (drop read (input_pieces events id)) (sym (take-append-drop read (input_pieces events id))) was.left
    (none_of_nothing (drop read (input_pieces events id)) (filled_drop read (input_pieces events id) (input_filled (starting_state events id) events id)))
rows_heard events id read (x ∷ rest) was = by_part was.part
  where
    by_part : (◌≡◌ {A = Bytes} (x ∷ rest) []) ⊎ IsEndOf (x ∷ rest) (take read (input_pieces events id)) → arrivals_heard events id ≡ arrivals_among (take (read - 1) (input_pieces events id))
    by_part (inl e) = cc
    by_part (inr end) =
        let all : input_pieces events id ≡ (end.before ++ end.last ∷ []) ++ drop read (input_pieces events id) =
        sym (take-append-drop read (input_pieces events id)) ∙ ap (λ (pieces : List Piece). pieces ++ drop read (input_pieces events id)) end.pieces_are in
        let pieces_count = ap (λ (pieces : List Piece). length pieces) end.pieces_are ∙ length-append end.before (end.last ∷ []) in
        let taken_count = length-take read (input_pieces events id) in
        let within = was.within in
        let count : read ≡ length end.before + 1 = omega (arith, pieces_count, taken_count, within) in
        let first : take (read - 1) (input_pieces events id) ≡ end.before =
        ap (take (read - 1)) all ∙ front_of end.before end.last (drop read (input_pieces events id)) read count in
        let left : end.done ++ input_left events id ≡ input_bytes (end.last ∷ drop read (input_pieces events id)) =
        ap (λ (bytes : Bytes). end.done ++ bytes) was.left ∙ sym (append_assoc end.done (x ∷ rest) (input_bytes (drop read (input_pieces events id))))
        ∙ ap (λ (bytes : Bytes). bytes ++ input_bytes (drop read (input_pieces events id))) (sym end.bytes_are) in
        let bytes_count = ap (λ (bytes : Bytes). length bytes) end.bytes_are ∙ length-append end.done (x ∷ rest) in
        let part : nat_le (length end.last.bytes) (length end.done) ≡ false = lt-leb (length end.last.bytes) (length end.done) (omega (arith, bytes_count)) in
        counted_by events id end.done end.before (end.last ∷ drop read (input_pieces events id)) (all ∙ append_assoc end.before (end.last ∷ []) (drop read (input_pieces events id))) left
        (ap (λ (b : Bool). if b then (if end.last.is_arrival then 1 else 0) + arrivals_within (drop read (input_pieces events id)) (length end.done - length end.last.bytes) else 0) part)
        ∙ ap arrivals_among (sym first)

-- where an input is cut: behind whole frames, and within the next
abbrev pub IsPartial : List Piece → ℕ → Type 0
IsPartial [] n = Unit {0}
IsPartial (piece ∷ pieces) n = n < length piece.bytes

pub record IsCut (events : List Event) (id : Text) (whole : ℕ) : Type 0 where
  pub others : List Piece
  pub done : ℕ
  pub pieces_are : input_pieces events id ≡ take whole (input_pieces events id) ++ others
  pub count : length (take whole (input_pieces events id)) ≡ whole
  pub handed : bytes_handed events id ≡ length (input_bytes (take whole (input_pieces events id))) + done
  pub partial : IsPartial others done

handed_by : (events : List Event) (id : Text) (done : Bytes) (whole others : List Piece) → input_pieces events id ≡ whole ++ others → done ++ input_left events id ≡ input_bytes others
    → bytes_handed events id ≡ length (input_bytes whole) + length done
handed_by events id done whole others e f =
    let total : length (input_bytes (input_pieces events id)) ≡ length (input_bytes whole) + length (input_bytes others) =
    ap (λ (pieces : List Piece). length (input_bytes pieces)) e ∙ ap (λ (bytes : Bytes). length bytes) (bytes_more whole others) ∙ length-append (input_bytes whole) (input_bytes others) in
    let sum = ap (λ (bytes : Bytes). length bytes) f in
    let both = length-append done (input_left events id) in
    let all = left_length events id in
    omega (arith, total, sum, both, all)

partial_none : (pieces : List Piece) → AreFilled pieces → IsPartial pieces 0
partial_none [] filled = tt
partial_none (piece ∷ pieces) filled = filled.0

pub rows_cut : (events : List Event) (id : Text) (read : ℕ) (rest : Bytes) → ReadsRows events id read rest → IsCut events id (frames_whole read rest)
rows_cut events id read [] was = record {
  others = drop read (input_pieces events id);
  done = 0;
  pieces_are = sym (take-append-drop read (input_pieces events id));
  count = (let taken = length-take read (input_pieces events id) in let within = was.within in omega (arith, taken, within));
  handed = handed_by events id [] (take read (input_pieces events id)) (drop read (input_pieces events id)) (sym (take-append-drop read (input_pieces events id))) was.left;
  partial = partial_none (drop read (input_pieces events id)) (filled_drop read (input_pieces events id) (input_filled (starting_state events id) events id));
}
rows_cut events id read (x ∷ rest) was = by_part was.part
  where
    by_part : (◌≡◌ {A = Bytes} (x ∷ rest) []) ⊎ IsEndOf (x ∷ rest) (take read (input_pieces events id)) → IsCut events id (read - 1)
    by_part (inl e) = cc
    by_part (inr end) =
        let all : input_pieces events id ≡ (end.before ++ end.last ∷ []) ++ drop read (input_pieces events id) =
        sym (take-append-drop read (input_pieces events id)) ∙ ap (λ (pieces : List Piece). pieces ++ drop read (input_pieces events id)) end.pieces_are in
        let pieces_count = ap (λ (pieces : List Piece). length pieces) end.pieces_are ∙ length-append end.before (end.last ∷ []) in
        let taken_count = length-take read (input_pieces events id) in
        let within = was.within in
        let count : read ≡ length end.before + 1 = omega (arith, pieces_count, taken_count, within) in
        let first : take (read - 1) (input_pieces events id) ≡ end.before =
        ap (take (read - 1)) all ∙ front_of end.before end.last (drop read (input_pieces events id)) read count in
        let left : end.done ++ input_left events id ≡ input_bytes (end.last ∷ drop read (input_pieces events id)) =
        ap (λ (bytes : Bytes). end.done ++ bytes) was.left ∙ sym (append_assoc end.done (x ∷ rest) (input_bytes (drop read (input_pieces events id))))
        ∙ ap (λ (bytes : Bytes). bytes ++ input_bytes (drop read (input_pieces events id))) (sym end.bytes_are) in
        let split : input_pieces events id ≡ end.before ++ (end.last ∷ drop read (input_pieces events id)) =
        all ∙ append_assoc end.before (end.last ∷ []) (drop read (input_pieces events id)) in
        let bytes_count = ap (λ (bytes : Bytes). length bytes) end.bytes_are ∙ length-append end.done (x ∷ rest) in record {
          others = end.last ∷ drop read (input_pieces events id);
          done = length end.done;
          pieces_are = split ∙ ap (λ (pieces : List Piece). pieces ++ (end.last ∷ drop read (input_pieces events id))) (sym first);
          count = ap (λ (pieces : List Piece). length pieces) first ∙ (let minus : length end.before ≡ read - 1 = omega (arith, count) in minus);
          handed =
              handed_by events id end.done end.before (end.last ∷ drop read (input_pieces events id)) split left
              ∙ ap (λ (pieces : List Piece). length (input_bytes pieces) + length end.done) (sym first);
          partial = (omega (arith, bytes_count));
        }

rows_part : (events : List Event) (id : Text) (read most : ℕ) (x : ℕ) (rest : Bytes) → ReadsRows events id read (x ∷ rest) → HandsPart (input_left events id) most (take most (x ∷ rest))
rows_part events id read most x rest was = record {
  rest = drop most (x ∷ rest) ++ input_bytes (drop read (input_pieces events id));
  beginning =
      was.left
      ∙ ap (λ (bytes : Bytes). bytes ++ input_bytes (drop read (input_pieces events id))) (sym (take-append-drop most (x ∷ rest)))
      ∙ append_assoc (take most (x ∷ rest)) (drop most (x ∷ rest)) (input_bytes (drop read (input_pieces events id)));
  few = (let count = length-take most (x ∷ rest) in omega (arith, count));
  none = by_most most;
}
  where
    by_most : (n : ℕ) → take n (x ∷ rest) ≡ [] → (n ≡ 0) ⊎ (input_left events id ≡ [])
    by_most zero e = inl refl
    by_most (suc n) e = cc

rows_remain : (events : List Event) (id : Text) (read : ℕ) (rest : Bytes) → ReadsRows events id read rest → input_left events id ≡ [] → (rest ≡ []) × (slice_get (input_pieces events id) read ≡ None)
rows_remain events id read (x ∷ rest) was e = absurd (some_left (sym was.left ∙ e))
  where
    some_left : ◌≡◌ {A = Bytes} (x ∷ (rest ++ input_bytes (drop read (input_pieces events id)))) [] → ⊥
    some_left e = cc
rows_remain events id read [] was e = (refl, by_next (slice_get (input_pieces events id) read) refl)
  where
    by_next : (o : Option Piece) → slice_get (input_pieces events id) read ≡ o → o ≡ None
    by_next None f = refl
    by_next (Some piece) f =
        let low = filled_at (input_pieces events id) read piece (input_filled (starting_state events id) events id) f in
        let all = ap (λ (bytes : Bytes). length bytes) (sym was.left ∙ e) in
        let next = ap (λ (pieces : List Piece). length (input_bytes pieces)) (drop_next (input_pieces events id) read piece f) in
        let sum = length-append piece.bytes (input_bytes (drop (read + 1) (input_pieces events id))) in
        absurd (omega (arith, low, all, next, sum))

pub rows_tell : RowsTell
rows_tell = record {
  nothing = λ events id read e was. was.left ∙ ap input_bytes (get_past (input_pieces events id) read e);
  remains = rows_remain;
  part = rows_part;
  filled = λ events id read piece e. first_byte piece.bytes (filled_at (input_pieces events id) read piece (input_filled (starting_state events id) events id) e);
  heard = rows_heard;
}
