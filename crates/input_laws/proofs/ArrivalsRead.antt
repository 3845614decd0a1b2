-- What an attempt has read of its input is a beginning of what it was handed, whatever event is accepted.
use Rattle.std.proofs.Common.{ℕ, ◌+◌, ◌-◌, arith, nat_le, ◌≡◌, refl, sym, ap, ap₂, ◌∙◌, true, false, if◌then◌else◌, List, [], ◌∷◌, ◌++◌, append_assoc, append-nil, length, length-append, length-drop, take, drop, drop-drop, Option, Some, None}
use Rattle.std.proofs.lemmas.Bool.{le-leb}
use Rattle.std.proofs.lemmas.List.{append_cancel_left, take-append-le, drop-append-le, drop_min, take-append-drop}
use Rattle.journal_model.specs.Notification.{Bytes, Text, Arrival}
use Rattle.journal_model.specs.State.{StateMap}
use Rattle.journal_model.specs.Event.{Event}
use Rattle.journal_model.specs.Journal.{begins, invocation_begun, arrivals_in, entries_of, recorded_arrivals}
use Rattle.journal_model.specs.Attempt.{Piece, begins_attempt, journal_pieces, input_from, input_bytes, input_pieces, input_left, bytes_asked, handed_after, handed_from, bytes_handed, arrivals_within}
use Rattle.journal_model.specs.Cause.{IsAccepted}
use Rattle.journal_model.specs.Headline.{arrivals_handed}
use Rattle.input_laws.specs.ArrivalsRead.{arrivals_among, HasReadPieces, arrivals_read}
use Rattle.input_laws.proofs.Events.{added_by, start_same, arrivals_now}
use Rattle.input_laws.proofs.Handed.{among-append, bytes_more, take-rises, brought, pieces_now, handed_now, handed_within, counted}

within-read : (read unread : List Piece) (n : ℕ) → arrivals_within (read ++ unread) (length (input_bytes read) + n) ≡ arrivals_among read + arrivals_within unread n
within-read [] unread n =
    let same : 0 + n ≡ n = omega arith in
    ap (arrivals_within unread) same ∙ (let back : arrivals_within unread n ≡ 0 + arrivals_within unread n = omega arith in back)
within-read (piece ∷ read) unread n =
    let sum = length-append piece.bytes (input_bytes read) in
    let all : nat_le (length piece.bytes) (length (piece.bytes ++ input_bytes read) + n) ≡ true = le-leb (length piece.bytes) (length (piece.bytes ++ input_bytes read) + n) (omega arith) in
    let rest : (length (piece.bytes ++ input_bytes read) + n) - length piece.bytes ≡ length (input_bytes read) + n = omega arith in
    let later = within-read read unread n in
    let now : arrivals_within (read ++ unread) ((length (piece.bytes ++ input_bytes read) + n) - length piece.bytes) ≡ arrivals_among read + arrivals_within unread n = ap (arrivals_within (read ++ unread)) rest ∙ later in
    rw all (ap (λ (m : ℕ). (if piece.is_arrival then 1 else 0) + m) now
    ∙ (let back : (if piece.is_arrival then 1 else 0) + (arrivals_among read + arrivals_within unread n) ≡ ((if piece.is_arrival then 1 else 0) + arrivals_among read) + arrivals_within unread n = omega arith in back))

module _ (events : List Event) (id : Text) (held : Bytes) (read unread : List Piece) (reads : HasReadPieces events id held read unread) where
  all_bytes : length (input_bytes (input_pieces events id)) ≡ length (input_bytes read) + length (input_bytes unread)
  all_bytes =
      ap (λ (pieces : List Piece). length (input_bytes pieces)) reads.pieces ∙ ap (λ (bytes : Bytes). length bytes) (bytes_more read unread)
      ∙ length-append (input_bytes read) (input_bytes unread)

  handed_is : bytes_handed events id ≡ length (input_bytes read) + length held
  handed_is =
      let total = all_bytes in
      let sum = ap (λ (bytes : Bytes). length bytes) reads.bytes in
      let both = length-append held (input_left events id) in
      let left = length-drop (bytes_handed events id) (input_bytes (input_pieces events id)) in
      let within = handed_within events id in
      omega arith

  counts : arrivals_within (input_pieces events id) (bytes_handed events id) ≡ arrivals_among read + arrivals_within unread (length held)
  counts = ap₂ arrivals_within reads.pieces handed_is ∙ within-read read unread (length held)

  -- what was read is a beginning of what was handed out
  pub read_first : (rest : List Arrival) × (arrivals_handed events id ≡ arrivals_read events id read ++ rest)
  read_first =
      let (rest, e) = take-rises (arrivals_among read) (arrivals_among read + arrivals_within unread (length held)) (recorded_arrivals events id) (omega arith) in
      (rest, ap (λ (n : ℕ). take n (recorded_arrivals events id)) counts ∙ e)

  -- where no frame of an arrival is whole among what it holds, it is all of that
  pub read_all : arrivals_within unread (length held) ≡ 0 → arrivals_handed events id ≡ arrivals_read events id read
  read_all nothing =
      let same : arrivals_within (input_pieces events id) (bytes_handed events id) ≡ arrivals_among read = counts ∙ omega (arith, nothing) in
      ap (λ (n : ℕ). take n (recorded_arrivals events id)) same

  -- ---- one more event

  module _ (event : Event) (accepted : IsAccepted events) (old : begins id event ≡ false) (going : begins_attempt id event ≡ false) where
    pub read_same : arrivals_read (event ∷ events) id read ≡ arrivals_read events id read
    read_same =
        let all = counted events accepted id in
        let sum : arrivals_among (input_pieces events id) ≡ arrivals_among read + arrivals_among unread = ap arrivals_among reads.pieces ∙ among-append read unread in
        ap (λ (arrivals : List Arrival). take (arrivals_among read) arrivals) (arrivals_now event events id old)
        ∙ take-append-le (arrivals_among read) (recorded_arrivals events id) (arrivals_in (added_by events id event)) (omega arith)

    more_pieces : input_pieces (event ∷ events) id ≡ read ++ (unread ++ brought events event id old going)
    more_pieces =
        pieces_now events event id old going ∙ ap (λ (pieces : List Piece). pieces ++ brought events event id old going) reads.pieces
        ∙ append_assoc read unread (brought events event id old going)

    -- one that hands nothing out
    pub reads_on : bytes_asked id event ≡ None → HasReadPieces (event ∷ events) id held read (unread ++ brought events event id old going)
    reads_on asks = record {
      pieces = more_pieces;
      bytes =
          let left_grown : input_left (event ∷ events) id ≡ input_left events id ++ input_bytes (brought events event id old going) =
          ap₂ (λ (n : ℕ) (bytes : Bytes). drop n bytes)
          (handed_now events event id old going ∙ ap (λ (o : Option ℕ). handed_after o (bytes_handed events id) (length (input_bytes (input_pieces events id)))) asks)
          (ap input_bytes (pieces_now events event id old going) ∙ bytes_more (input_pieces events id) (brought events event id old going))
          ∙ drop-append-le (bytes_handed events id) (input_bytes (input_pieces events id)) (input_bytes (brought events event id old going)) (handed_within events id) in
          ap (λ (bytes : Bytes). held ++ bytes) left_grown
          ∙ sym (append_assoc held (input_left events id) (input_bytes (brought events event id old going)))
          ∙ ap (λ (bytes : Bytes). bytes ++ input_bytes (brought events event id old going)) reads.bytes
          ∙ sym (bytes_more unread (brought events event id old going));
    }

    -- one that hands out the next bytes, which the attempt then holds
    pub reads_more : (most : ℕ) → bytes_asked id event ≡ Some most → brought events event id old going ≡ []
        → HasReadPieces (event ∷ events) id (held ++ take most (input_left events id)) read unread
    reads_more most asks none = record {
      pieces = more_pieces ∙ ap (λ (pieces : List Piece). read ++ (unread ++ pieces)) none ∙ ap (λ (pieces : List Piece). read ++ pieces) (append-nil unread);
      bytes =
          let all = input_bytes (input_pieces events id) in
          let left_now : input_left (event ∷ events) id ≡ drop most (input_left events id) =
          ap₂ (λ (n : ℕ) (bytes : Bytes). drop n bytes)
          (handed_now events event id old going ∙ ap (λ (o : Option ℕ). handed_after o (bytes_handed events id) (length (input_bytes (input_pieces events id)))) asks)
          (ap input_bytes (pieces_now events event id old going ∙ ap (λ (pieces : List Piece). input_pieces events id ++ pieces) none ∙ append-nil (input_pieces events id)))
          ∙ drop_min (bytes_handed events id + most) all ∙ sym (drop-drop most (bytes_handed events id) all) in
          ap (λ (bytes : Bytes). (held ++ take most (input_left events id)) ++ bytes) left_now
          ∙ append_assoc held (take most (input_left events id)) (drop most (input_left events id))
          ∙ ap (λ (bytes : Bytes). held ++ bytes) (take-append-drop most (input_left events id))
          ∙ reads.bytes;
    }

  -- a turn reads frames of which it holds all bytes
  pub reads_frames : (some rest : List Piece) (kept : Bytes) → unread ≡ some ++ rest → held ≡ input_bytes some ++ kept → HasReadPieces events id kept (read ++ some) rest
  reads_frames some rest kept e f = record {
    pieces = reads.pieces ∙ ap (λ (pieces : List Piece). read ++ pieces) e ∙ sym (append_assoc read some rest);
    bytes =
        let whole : input_bytes some ++ (kept ++ input_left events id) ≡ input_bytes some ++ input_bytes rest =
        sym (append_assoc (input_bytes some) kept (input_left events id)) ∙ ap (λ (bytes : Bytes). bytes ++ input_left events id) (sym f)
        ∙ reads.bytes ∙ ap input_bytes e ∙ bytes_more some rest in
        append_cancel_left (input_bytes some) (kept ++ input_left events id) (input_bytes rest) whole;
  }

-- a new attempt has read nothing
pub reads_first : (events : List Event) (event : Event) (id : Text) → begins id event ≡ false → begins_attempt id event ≡ true
    → HasReadPieces (event ∷ events) id [] [] (journal_pieces (invocation_begun events id) (entries_of events id))
reads_first events event id old e = record {
  pieces = journal;
  bytes = ap₂ (λ (n : ℕ) (pieces : List Piece). drop n (input_bytes pieces)) nothing journal;
}
  where
    journal : input_pieces (event ∷ events) id ≡ journal_pieces (invocation_begun events id) (entries_of events id)
    journal = ap (λ (start : StateMap). input_from start (event ∷ events) id) (start_same event events id old) ∙ rw e refl

    nothing : bytes_handed (event ∷ events) id ≡ 0
    nothing = ap (λ (start : StateMap). handed_from start (event ∷ events) id) (start_same event events id old) ∙ rw e refl
