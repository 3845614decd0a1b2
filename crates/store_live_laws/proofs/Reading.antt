-- The next frame of an input is read from its row.
use Rattle.std.proofs.Common.{ℕ, zero, suc, ◌+◌, ◌-◌, ◌≤◌, ◌<◌, ◌^◌, ◌==◌, arith, nat_le, ◌≡◌, refl, sym, ap, ap₂, subst, ◌∙◌, Bool, true, false, if◌then◌else◌, List, [], ◌∷◌, ◌++◌, length, map, take, drop, Option, Some, None, is_some, option_map}
use Rattle.std.specs.List.{list_any, slice_get}
use Rattle.std.proofs.lemmas.Bool.{leb-true, leb-false}
use Rattle.std.proofs.lemmas.List.{length-take-le}
use Rattle.std.proofs.lemmas.Option.{slice_get-map}
use Rattle.protocol_types.specs.declared.message_type.MessageType.TheVariants.{ProposeRunCompletionAck}
use Rattle.journal_model.specs.declared.notification.NotificationId.{NotificationId}
use Rattle.journal_model.specs.declared.notification.NotificationId.TheVariants.{CompletionId, SignalId, SignalName}
use Rattle.journal_model.specs.declared.invocation.NewInvocation.{NewInvocation}
use Rattle.journal_model.specs.Notification.{Bytes, Text, Arrival}
use Rattle.journal_model.specs.Spelling.{frame_bytes, acknowledgement_payload}
use Rattle.journal_model.specs.Event.{Event}
use Rattle.journal_model.specs.Journal.{Entry, Recorded, Arrived, invocation_begun, arrivals_in, entries_of, recorded_arrivals}
use Rattle.journal_model.specs.Attempt.{Piece, input_pieces, input_left}
use Rattle.journal_model.specs.Cause.{IsAccepted}
use Rattle.input_laws.specs.ArrivalsRead.{arrivals_among}
use Rattle.due_laws.specs.Rows.{frames_known, arrivals_known, with_outcome_noted, outcomes_noted, noted_number, outcomes_unread, first_if}
use Rattle.due_laws.specs.InputParts.{ReadsRows}
use Rattle.due_laws.proofs.InputParts.{rows_tell}
use Rattle.due_laws.proofs.Outcomes.{outcomes_are_read}
use Rattle.store_tables.specs.declared.row.EntryRow.{EntryRow}
use Rattle.store_model.specs.Places.{input_places}
use Rattle.store_model.specs.KeptRecords.{answered_by, entry_row, rows_from, input_row, rows_of_journal, journal_rows}
use Rattle.store_model.specs.Lookups.{arrival_rows, row_frame, rows_of_arrivals}
use Rattle.store_live.specs.declared.input.FrameRead.{FrameRead}
use Rattle.store_live.specs.declared.input.NextRow.{NextRow}
use Rattle.store_live.specs.Input.{CanCount, InputKept, is_first, next_ordinal, next_row, with_frame}
use Rattle.store_live_laws.specs.InputRows.{as_answered, later_frame, frame_at}
use Rattle.store_live_laws.specs.Memory.{IsInputOf, row_asked, plain_read, told_read, arrival_read, frame_read, is_arrived, InputAgrees, AllInputsCount}
use Rattle.store_live_laws.proofs.Counting.{same_count, pieces_few}
use Rattle.store_live_laws.proofs.Places.{frames_are_read}
use Rattle.store_live_laws.proofs.Memory.{arrivals_are_told, arrivals_read, input_begun, input_stays, input_notes, input_makes_room, input_hands, input_reads}

-- ---- what a row tells

entry_flags : (id : Text) (before : List Entry) (place : ℕ) (entries : List Entry) → map (λ (row : EntryRow). is_some row.arrival) (rows_from id before place entries) ≡ map is_arrived entries
entry_flags id before place [] = refl
entry_flags id before place (Recorded request ∷ entries) = ap (λ (rest : List Bool). false ∷ rest) (entry_flags id (before ++ Recorded request ∷ []) (place + 1) entries)
entry_flags id before place (Arrived arrival ∷ entries) = ap (λ (rest : List Bool). true ∷ rest) (entry_flags id (before ++ Arrived arrival ∷ []) (place + 1) entries)

journal_flag : (o : Option NewInvocation) (id : Text) (entries : List Entry) (k : ℕ) (row : EntryRow) → slice_get (rows_of_journal o id entries) k ≡ Some row
    → slice_get (false ∷ map is_arrived entries) k ≡ Some (is_some row.arrival)
journal_flag None id entries k row e = cc
journal_flag (Some new) id entries k row e =
    ap (λ (rest : List Bool). slice_get (false ∷ rest) k) (sym (entry_flags id [] 1 entries))
    ∙ slice_get-map (λ (one : EntryRow). is_some one.arrival) (rows_of_journal (Some new) id entries) k
    ∙ ap (option_map (λ (one : EntryRow). is_some one.arrival)) e

entry_place : (id : Text) (before : List Entry) (place : ℕ) (entry : Entry) → (entry_row id before place entry).place ≡ place
entry_place id before place (Recorded request) = refl
entry_place id before place (Arrived arrival) = refl

place_from : (id : Text) (before : List Entry) (place : ℕ) (entries : List Entry) (k : ℕ) (row : EntryRow) → slice_get (rows_from id before place entries) k ≡ Some row → row.place ≡ place + k
place_from id before place [] k row e = cc
place_from id before place (entry ∷ entries) zero row e =
    let same : entry_row id before place entry ≡ row = cc in
    let is : row.place ≡ place = ap (λ (one : EntryRow). one.place) (sym same) ∙ entry_place id before place entry in
    omega (arith, is)
place_from id before place (entry ∷ entries) (suc k) row e =
    let is = place_from id (before ++ entry ∷ []) (place + 1) entries k row e in
    omega (arith, is)

journal_place : (o : Option NewInvocation) (id : Text) (entries : List Entry) (k : ℕ) (row : EntryRow) → slice_get (rows_of_journal o id entries) k ≡ Some row → row.place ≡ k
journal_place None id entries k row e = cc
journal_place (Some new) id entries zero row e = let same : input_row new ≡ row = cc in ap (λ (one : EntryRow). one.place) (sym same)
journal_place (Some new) id entries (suc k) row e = let is = place_from id [] 1 entries k row e in omega (arith, is)

arrival_flag : (id : Text) (before : List Entry) (place : ℕ) (entries : List Entry) (k : ℕ) (row : EntryRow) → slice_get (rows_of_arrivals id before place entries) k ≡ Some row → is_some row.arrival ≡ true
arrival_flag id before place [] k row e = cc
arrival_flag id before place (Recorded request ∷ entries) k row e = arrival_flag id (before ++ Recorded request ∷ []) (place + 1) entries k row e
arrival_flag id before place (Arrived arrival ∷ entries) zero row e =
    let same : entry_row id before place (Arrived arrival) ≡ row = cc in
    ap (λ (one : EntryRow). is_some one.arrival) (sym same)
arrival_flag id before place (Arrived arrival ∷ entries) (suc k) row e = arrival_flag id (before ++ Arrived arrival ∷ []) (place + 1) entries k row e

arrival_place : (id : Text) (before : List Entry) (place : ℕ) (entries : List Entry) (k : ℕ) (row : EntryRow) → slice_get (rows_of_arrivals id before place entries) k ≡ Some row
    → row.place < place + length entries
arrival_place id before place [] k row e = cc
arrival_place id before place (Recorded request ∷ entries) k row e =
    let low = arrival_place id (before ++ Recorded request ∷ []) (place + 1) entries k row e in
    omega (arith, low)
arrival_place id before place (Arrived arrival ∷ entries) zero row e =
    let same : entry_row id before place (Arrived arrival) ≡ row = cc in
    let is : row.place ≡ place = ap (λ (one : EntryRow). one.place) (sym same) in
    omega (arith, is)
arrival_place id before place (Arrived arrival ∷ entries) (suc k) row e =
    let low = arrival_place id (before ++ Arrived arrival ∷ []) (place + 1) entries k row e in
    omega (arith, low)

arrival_answers : (id : Text) (before : List Entry) (place : ℕ) (entries : List Entry)
    → map (λ (row : EntryRow). row.answered) (rows_of_arrivals id before place entries) ≡ map (λ (arrival : Arrival). answered_by arrival.id) (arrivals_in entries)
arrival_answers id before place [] = refl
arrival_answers id before place (Recorded request ∷ entries) = arrival_answers id (before ++ Recorded request ∷ []) (place + 1) entries
arrival_answers id before place (Arrived arrival ∷ entries) =
    ap (λ (rest : List (Option ℕ)). answered_by arrival.id ∷ rest) (arrival_answers id (before ++ Arrived arrival ∷ []) (place + 1) entries)

frame_place : (unread : List ℕ) (next : NextRow) (row : EntryRow) → (frame_read unread next row).place ≡ row.place
frame_place unread (NextRow.Entry place) row = refl
frame_place unread (NextRow.Arrival ordinal) row = by_answer row.answered
  where
    by_answer : (o : Option ℕ) → (arrival_read unread o row).place ≡ row.place
    by_answer None = refl
    by_answer (Some n) = by_test (is_first unread n)
      where
        by_test : (b : Bool) → (if b then told_read n row else plain_read row).place ≡ row.place
        by_test true = refl
        by_test false = refl

-- ---- the outcome that is to be acknowledged is the first of those whose rows were not read

abbrev after_read : List ℕ → FrameRead → List ℕ
after_read unread frame = if frame.is_acknowledgement then drop 1 unread else unread

abbrev IsToldAs : (noted unread later : List ℕ) → Option ℕ → EntryRow → Type 0
IsToldAs noted unread later o row = (as_answered noted o (row_frame row) ≡ (arrival_read unread o row).bytes) × (after_read unread (arrival_read unread o row) ≡ later)

module _ (later : List ℕ) (row : EntryRow) (n : ℕ) where
  abbrev acknowledgement : Bytes
  acknowledgement = frame_bytes ProposeRunCompletionAck (acknowledgement_payload n)

  -- whether it is noted, and whether it is the first
  by_both : (is_noted : Bool) (unread : List ℕ) → (if is_noted then Some n else None) ≡ first_if (CompletionId n) unread → unread ≡ with_outcome_noted (if is_noted then Some n else None) later
      → ((if is_noted then acknowledgement else row_frame row) ≡ (arrival_read unread (Some n) row).bytes) × (after_read unread (arrival_read unread (Some n) row) ≡ later)
  by_both true [] e f = absurd (nothing e)
    where
      nothing : ◌≡◌ {A = Option ℕ} (Some n) None → ⊥
      nothing e = cc
  by_both true (x ∷ rest) e f = by_test (x == n) e
    where
      by_test : (c : Bool) → Some n ≡ (if c then Some n else None)
          → (acknowledgement ≡ (if c then told_read n row else plain_read row).bytes) × (after_read (x ∷ rest) (if c then told_read n row else plain_read row) ≡ later)
      by_test true e = (refl, ap (drop 1) f)
      by_test false e = cc
  by_both false [] e f = (refl, f)
  by_both false (x ∷ rest) e f = by_test (x == n) e
    where
      by_test : (c : Bool) → None ≡ (if c then Some n else None)
          → (row_frame row ≡ (if c then told_read n row else plain_read row).bytes) × (after_read (x ∷ rest) (if c then told_read n row else plain_read row) ≡ later)
      by_test true e = cc
      by_test false e = (refl, f)

told_row : (noted unread later : List ℕ) (i : NotificationId) (row : EntryRow) → noted_number noted i ≡ first_if i unread → unread ≡ with_outcome_noted (noted_number noted i) later
    → IsToldAs noted unread later (answered_by i) row
told_row noted unread later (CompletionId n) row e f = by_both later row n (list_any (λ m. m == n) noted) unread e f
told_row noted unread later (SignalId n) row e f = (refl, f)
told_row noted unread later (SignalName name) row e f = (refl, f)

-- ---- the next row

module _ (events : List Event) (id : Text) (m : InputKept) (accepted : IsAccepted events) (none : m.rest ≡ []) (was : IsInputOf events id m) where
  -- of those that were known at the begin
  known_row : nat_le m.known m.read ≡ false → (row : EntryRow) → slice_get (journal_rows events id) m.read ≡ Some row → IsInputOf events id (with_frame (plain_read row) m)
  known_row low row e =
      let known = was.known in
      let few = leb-false m.known m.read low in
      let below : m.read < frames_known events id = omega (arith, known, few) in
      let frames = frames_are_read events id accepted in
      let same : m.read - m.known ≡ (m.read + 1) - m.known = omega (arith, few) in
      by_piece (slice_get (input_pieces events id) m.read) refl below
      (frames.at_begin m.read below ∙ ap (option_map row_frame) e)
      (frames.place m.read below ∙ ap Some (sym (journal_place (invocation_begun events id) id (entries_of events id) m.read row e)))
      ((arrivals_are_told events id accepted).at_begin m.read below ∙ journal_flag (invocation_begun events id) id (entries_of events id) m.read row e)
      (was.unread ∙ ap (λ (k : ℕ). outcomes_unread events id (m.arrivals + k)) same)
    where
      by_piece : (o : Option Piece) → slice_get (input_pieces events id) m.read ≡ o → m.read < frames_known events id → option_map (λ (piece : Piece). piece.bytes) (slice_get (input_pieces events id) m.read) ≡ Some (row_frame row)
          → slice_get (input_places events id) m.read ≡ Some row.place → option_map (λ (piece : Piece). piece.is_arrival) (slice_get (input_pieces events id) m.read) ≡ Some (is_some row.arrival)
          → m.unread ≡ outcomes_unread events id (m.arrivals + ((m.read + 1) - m.known)) → IsInputOf events id (with_frame (plain_read row) m)
      by_piece None f below bytes at flag unread = cc
      by_piece (Some piece) f below bytes at flag unread =
          let b : piece.bytes ≡ row_frame row = cc in
          let c : piece.is_arrival ≡ is_some row.arrival = cc in
          input_reads events id m (plain_read row) piece none f at b c unread was

  -- of a later arrival
  abbrev behind : ℕ
  behind = m.read - m.known

  module _ (high : nat_le m.known m.read ≡ true) where
    here : m.read ≡ frames_known events id + behind
    here = let known = was.known in let many = leb-true m.known m.read high in omega (arith, known, many)

    index : next_ordinal m - 1 ≡ arrivals_known events id + behind
    index = let arrivals = was.arrivals in omega (arith, arrivals)

    read_of : m.arrivals + behind ≡ arrivals_known events id + behind
    read_of = ap (λ (n : ℕ). n + behind) was.arrivals

    module _ (row : EntryRow) (e : slice_get (arrival_rows events id) (arrivals_known events id + behind) ≡ Some row) where
      -- the arrival whose row it is
      told_here : (o : Option Arrival) → slice_get (recorded_arrivals events id) (m.arrivals + behind) ≡ o → option_map (λ (arrival : Arrival). answered_by arrival.id) o ≡ Some row.answered
          → IsToldAs (outcomes_noted events id) m.unread (outcomes_unread events id ((m.arrivals + behind) + 1)) row.answered row
      told_here None f g = cc
      told_here (Some arrival) f g =
          let is : answered_by arrival.id ≡ row.answered = cc in
          subst (λ (o : Option ℕ). IsToldAs (outcomes_noted events id) m.unread (outcomes_unread events id ((m.arrivals + behind) + 1)) o row) is
          (told_row (outcomes_noted events id) m.unread (outcomes_unread events id ((m.arrivals + behind) + 1)) arrival.id row
          (outcomes_are_read.told events id (m.arrivals + behind) arrival f ∙ ap (first_if arrival.id) (sym was.unread))
          (was.unread ∙ outcomes_are_read.read events id (m.arrivals + behind) arrival f))

      is_told : IsToldAs (outcomes_noted events id) m.unread (outcomes_unread events id ((m.arrivals + behind) + 1)) row.answered row
      is_told =
          told_here (slice_get (recorded_arrivals events id) (m.arrivals + behind)) refl
          (sym (slice_get-map (λ (arrival : Arrival). answered_by arrival.id) (recorded_arrivals events id) (m.arrivals + behind))
          ∙ ap₂ (λ (some : List (Option ℕ)) (k : ℕ). slice_get some k) (sym (arrival_answers id [] 1 (entries_of events id))) read_of
          ∙ slice_get-map (λ (one : EntryRow). one.answered) (arrival_rows events id) (arrivals_known events id + behind)
          ∙ ap (option_map (λ (one : EntryRow). one.answered)) e)

      unread_then : after_read m.unread (arrival_read m.unread row.answered row) ≡ outcomes_unread events id (m.arrivals + ((m.read + 1) - m.known))
      unread_then =
          let many = leb-true m.known m.read high in
          let same : (m.arrivals + behind) + 1 ≡ m.arrivals + ((m.read + 1) - m.known) = omega (arith, many) in
          is_told.1 ∙ ap (outcomes_unread events id) same

      later_row : IsInputOf events id (with_frame (arrival_read m.unread row.answered row) m)
      later_row =
          let frames = frames_are_read events id accepted in
          by_piece (slice_get (input_pieces events id) m.read) refl
          (ap (frame_at events id) here ∙ frames.behind behind ∙ ap (option_map (later_frame (outcomes_noted events id))) e ∙ ap Some is_told.0)
          (ap (slice_get (input_places events id)) here ∙ frames.place_behind behind ∙ ap (option_map (λ (one : EntryRow). one.place)) e
          ∙ ap Some (sym (frame_place m.unread (NextRow.Arrival 0) row)))
        where
          flag_is : (o : Option ℕ) → (arrival_read m.unread o row).is_arrival ≡ is_some row.arrival
          flag_is None = refl
          flag_is (Some n) = by_test (is_first m.unread n)
            where
              by_test : (b : Bool) → (if b then told_read n row else plain_read row).is_arrival ≡ is_some row.arrival
              by_test true = refl
              by_test false = refl

          by_piece : (o : Option Piece) → slice_get (input_pieces events id) m.read ≡ o → option_map (λ (piece : Piece). piece.bytes) (slice_get (input_pieces events id) m.read) ≡ Some ((arrival_read m.unread row.answered row).bytes)
              → slice_get (input_places events id) m.read ≡ Some ((arrival_read m.unread row.answered row).place) → IsInputOf events id (with_frame (arrival_read m.unread row.answered row) m)
          by_piece None f bytes at = cc
          by_piece (Some piece) f bytes at =
              let b : piece.bytes ≡ (arrival_read m.unread row.answered row).bytes = cc in
              let arrived : piece.is_arrival ≡ true = (arrivals_are_told events id accepted).behind behind piece (ap (slice_get (input_pieces events id)) (sym here) ∙ f) in
              let flag = arrival_flag id [] 1 (entries_of events id) (arrivals_known events id + behind) row e in
              input_reads events id m (arrival_read m.unread row.answered row) piece none f at b (arrived ∙ sym flag ∙ sym (flag_is row.answered)) unread_then was

  pub input_row_reads : (row : EntryRow) → row_asked events id (next_row m) ≡ Some row → IsInputOf events id (with_frame (frame_read m.unread (next_row m) row) m)
  input_row_reads row = by_test (nat_le m.known m.read) refl
    where
      by_test : (b : Bool) → nat_le m.known m.read ≡ b → row_asked events id (if b then NextRow.Arrival (next_ordinal m) else NextRow.Entry m.read) ≡ Some row
          → IsInputOf events id (with_frame (frame_read m.unread (if b then NextRow.Arrival (next_ordinal m) else NextRow.Entry m.read) row) m)
      by_test true high e = later_row high row (ap (slice_get (arrival_rows events id)) (sym (index high)) ∙ e)
      by_test false low e = known_row low row e

  -- none is left
  no_piece : (o : Option Piece) → option_map (λ (piece : Piece). piece.bytes) o ≡ None → o ≡ None
  no_piece None e = refl
  no_piece (Some piece) e = cc

  pub input_row_ends : row_asked events id (next_row m) ≡ None → input_left events id ≡ []
  input_row_ends = by_test (nat_le m.known m.read) refl
    where
      ended : frame_at events id m.read ≡ None → input_left events id ≡ []
      ended e =
          rows_tell.nothing events id m.read (no_piece (slice_get (input_pieces events id) m.read) e)
          (subst (λ (rest : Bytes). ReadsRows events id m.read rest) none was.reads)

      by_test : (b : Bool) → nat_le m.known m.read ≡ b → row_asked events id (if b then NextRow.Arrival (next_ordinal m) else NextRow.Entry m.read) ≡ None → input_left events id ≡ []
      by_test true high e =
          ended (ap (frame_at events id) (here high) ∙ (frames_are_read events id accepted).behind behind
          ∙ ap (option_map (later_frame (outcomes_noted events id))) (ap (slice_get (arrival_rows events id)) (sym (index high)) ∙ e))
      by_test false low e =
          let known = was.known in
          let few = leb-false m.known m.read low in
          ended ((frames_are_read events id accepted).at_begin m.read (omega (arith, known, few)) ∙ ap (option_map row_frame) e)

-- ---- all is counted

arrivals_few : (entries : List Entry) → length (arrivals_in entries) ≤ length entries
arrivals_few [] = omega arith
arrivals_few (Recorded request ∷ entries) = let few = arrivals_few entries in omega (arith, few)
arrivals_few (Arrived arrival ∷ entries) = let few = arrivals_few entries in omega (arith, few)

among_few : (pieces : List Piece) → arrivals_among pieces ≤ length pieces
among_few [] = omega arith
among_few (piece ∷ pieces) = by_test piece.is_arrival (among_few pieces)
  where
    by_test : (b : Bool) → arrivals_among pieces ≤ length pieces → (if b then 1 else 0) + arrivals_among pieces ≤ length (piece ∷ pieces)
    by_test true few = omega (arith, few)
    by_test false few = omega (arith, few)

row_within : (events : List Event) (id : Text) (next : NextRow) (row : EntryRow) → row_asked events id next ≡ Some row → row.place < 1 + length (entries_of events id)
row_within events id (NextRow.Entry place) row e = by_journal (invocation_begun events id) e
  where
    below : (before : List Entry) (from : ℕ) (entries : List Entry) (k : ℕ) → slice_get (rows_from id before from entries) k ≡ Some row → k < length entries
    below before from [] k f = cc
    below before from (entry ∷ entries) zero f = omega arith
    below before from (entry ∷ entries) (suc k) f = let low = below (before ++ entry ∷ []) (from + 1) entries k f in omega (arith, low)

    by_journal : (o : Option NewInvocation) → slice_get (rows_of_journal o id (entries_of events id)) place ≡ Some row → row.place < 1 + length (entries_of events id)
    by_journal o f = let is = journal_place o id (entries_of events id) place row f in let low = in_journal o place f in omega (arith, is, low)
      where
        in_journal : (o : Option NewInvocation) (k : ℕ) → slice_get (rows_of_journal o id (entries_of events id)) k ≡ Some row → k < 1 + length (entries_of events id)
        in_journal None k g = cc
        in_journal (Some new) zero g = omega arith
        in_journal (Some new) (suc k) g = let low = below [] 1 (entries_of events id) k g in omega (arith, low)
row_within events id (NextRow.Arrival ordinal) row e = arrival_place id [] 1 (entries_of events id) (ordinal - 1) row e

pub inputs_count : AllInputsCount
inputs_count events id m accepted room was =
    let come = arrivals_read events id m accepted was in
    let few = arrivals_few (entries_of events id) in record {
      ordinal = omega (arith, room, come, few);
      frame = λ row e.
          let low = row_within events id (next_row m) row e in
          let same = frame_place m.unread (next_row m) row in
          let after = input_row_reads_within events id m accepted was row e in
          let all = pieces_few events id in
          let counted = was.counted in
          let among = among_few (take m.read (input_pieces events id)) in
          let within = was.reads.within in
          let taken = length-take-le m.read (input_pieces events id) within in record {
            read = omega (arith, room, after, all);
            place = omega (arith, room, low, same);
            counted = omega (arith, room, after, all, counted, among, taken);
          };
    }
  where
    -- a row that is there is that of a frame
    input_row_reads_within : (events : List Event) (id : Text) (m : InputKept) → IsAccepted events → IsInputOf events id m → (row : EntryRow) → row_asked events id (next_row m) ≡ Some row
        → m.read < length (input_pieces events id)
    input_row_reads_within events id m accepted was row = by_test (nat_le m.known m.read) refl
      where
        within : (pieces : List Piece) (k : ℕ) (frame : Bytes) → option_map (λ (piece : Piece). piece.bytes) (slice_get pieces k) ≡ Some frame → k < length pieces
        within [] k frame e = cc
        within (piece ∷ pieces) zero frame e = omega arith
        within (piece ∷ pieces) (suc k) frame e = let low = within pieces k frame e in omega (arith, low)

        by_test : (b : Bool) → nat_le m.known m.read ≡ b → row_asked events id (if b then NextRow.Arrival (next_ordinal m) else NextRow.Entry m.read) ≡ Some row → m.read < length (input_pieces events id)
        by_test true high e =
            let known = was.known in
            let arrivals = was.arrivals in
            let many = leb-true m.known m.read high in
            let here : m.read ≡ frames_known events id + (m.read - m.known) = omega (arith, known, many) in
            let index : next_ordinal m - 1 ≡ arrivals_known events id + (m.read - m.known) = omega (arith, arrivals) in
            within (input_pieces events id) m.read (later_frame (outcomes_noted events id) row)
            (ap (frame_at events id) here ∙ (frames_are_read events id accepted).behind (m.read - m.known)
            ∙ ap (option_map (later_frame (outcomes_noted events id))) (ap (slice_get (arrival_rows events id)) (sym index) ∙ e))
        by_test false low e =
            let known = was.known in
            let few = leb-false m.known m.read low in
            within (input_pieces events id) m.read (row_frame row)
            ((frames_are_read events id accepted).at_begin m.read (omega (arith, known, few)) ∙ ap (option_map row_frame) e)

-- ---- step by step

pub input_agrees : InputAgrees
input_agrees = record {
  begun = input_begun;
  stays = λ events event id m accepted old going asks none was. input_stays events event id m accepted old going asks was none;
  notes = λ events event id m n accepted old going asks some was. input_notes events event id m accepted old going asks was n some;
  makes_room = input_makes_room;
  reads = λ events id m row accepted none e was. input_row_reads events id m accepted none was row e;
  ends = λ events id m accepted none e was. input_row_ends events id m accepted none was e;
  hands = input_hands;
}
