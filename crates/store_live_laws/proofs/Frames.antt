-- The frames of an input are those of rows.
use Rattle.std.proofs.Common.{ℕ, ◌+◌, ◌<◌, ◌==◌, ◌≡◌, refl, sym, ap, ap₂, ◌∙◌, Bool, true, false, if◌then◌else◌, List, [], ◌∷◌, ◌++◌, append_assoc, map, Option, Some, None, option_map}
use Rattle.std.specs.List.{list_any, slice_get}
use Rattle.std.proofs.lemmas.Option.{slice_get-map}
use Rattle.protocol_types.specs.declared.message_type.MessageType.{MessageType}
use Rattle.journal_model.specs.declared.notification.NotificationId.{NotificationId}
use Rattle.journal_model.specs.declared.notification.NotificationId.TheVariants.{CompletionId, SignalId, SignalName}
use Rattle.journal_model.specs.declared.invocation.NewInvocation.{NewInvocation}
use Rattle.journal_model.specs.Notification.{Bytes, Text, Arrival}
use Rattle.journal_model.specs.Spelling.{frame_bytes, notification_payload}
use Rattle.journal_model.specs.Event.{Event}
use Rattle.journal_model.specs.Journal.{Entry, Recorded, Arrived, invocation_begun, arrivals_in, entries_of, recorded_arrivals}
use Rattle.journal_model.specs.Attempt.{Piece, notification_type, entry_piece, journal_pieces}
use Rattle.journal_model.specs.Cause.{IsAccepted}
use Rattle.due_laws.specs.Rows.{frames_known, arrivals_known, outcomes_noted, noted_number, as_told, later_piece}
use Rattle.due_laws.proofs.Rows.{pieces_are_rows}
use Rattle.store_model.specs.KeptRecords.{answered_by, entry_row, rows_from, input_row, rows_of_journal, journal_rows}
use Rattle.store_model.specs.Lookups.{arrival_rows, row_frame, rows_of_arrivals}
use Rattle.store_model.proofs.Framing.{AreAskedBefore, all_asked_before, kind_stays}
use Rattle.store_live_laws.specs.InputRows.{as_answered, later_frame, frame_at}

abbrev bytes_of : Piece → Bytes
bytes_of piece = piece.bytes

-- ---- of a journal

rows_frames : (id : Text) (before : List Entry) (place : ℕ) (entries all : List Entry) → AreAskedBefore before entries → (before ++ entries) ≡ all
    → map row_frame (rows_from id before place entries) ≡ map bytes_of (map (entry_piece all) entries)
rows_frames id before place [] all h e = refl
rows_frames id before place (Recorded request ∷ entries) all h e =
    ap (λ (rest : List Bytes). row_frame (entry_row id before place (Recorded request)) ∷ rest)
    (rows_frames id (before ++ Recorded request ∷ []) (place + 1) entries all h.1 (append_assoc before (Recorded request ∷ []) entries ∙ e))
rows_frames id before place (Arrived arrival ∷ entries) all h e =
    ap₂ (λ (kind : MessageType) (rest : List Bytes). frame_bytes kind (notification_payload arrival) ∷ rest)
    (kind_stays before (Arrived arrival ∷ entries) arrival.id h.0 ∙ ap (λ (some : List Entry). notification_type some arrival.id) e)
    (rows_frames id (before ++ Arrived arrival ∷ []) (place + 1) entries all h.1 (append_assoc before (Arrived arrival ∷ []) entries ∙ e))

journal_frames : (events : List Event) (id : Text) → IsAccepted events → map bytes_of (journal_pieces (invocation_begun events id) (entries_of events id)) ≡ map row_frame (journal_rows events id)
journal_frames events id accepted = by_begun (invocation_begun events id)
  where
    by_begun : (o : Option NewInvocation) → map bytes_of (journal_pieces o (entries_of events id)) ≡ map row_frame (rows_of_journal o id (entries_of events id))
    by_begun None = refl
    by_begun (Some new) =
        ap (λ (rest : List Bytes). row_frame (input_row new) ∷ rest)
        (sym (rows_frames id [] 1 (entries_of events id) (entries_of events id) (all_asked_before id events accepted) refl))

-- ---- of arrivals

later_is : (noted : List ℕ) (i : NotificationId) (type : MessageType) (arrival : Arrival)
    → as_answered noted (answered_by i) (frame_bytes type (notification_payload arrival)) ≡ (as_told (noted_number noted i) type arrival).bytes
later_is noted (CompletionId n) type arrival = by_test (list_any (λ m. m == n) noted)
  where
    by_test : (b : Bool) → (if b then (as_told (Some n) type arrival).bytes else frame_bytes type (notification_payload arrival)) ≡ (as_told (if b then Some n else None) type arrival).bytes
    by_test true = refl
    by_test false = refl
later_is noted (SignalId n) type arrival = refl
later_is noted (SignalName name) type arrival = refl

arrivals_frames : (id : Text) (noted : List ℕ) (before : List Entry) (place : ℕ) (entries all : List Entry) → AreAskedBefore before entries → (before ++ entries) ≡ all
    → map (later_frame noted) (rows_of_arrivals id before place entries) ≡ map bytes_of (map (later_piece all noted) (arrivals_in entries))
arrivals_frames id noted before place [] all h e = refl
arrivals_frames id noted before place (Recorded request ∷ entries) all h e =
    arrivals_frames id noted (before ++ Recorded request ∷ []) (place + 1) entries all h.1 (append_assoc before (Recorded request ∷ []) entries ∙ e)
arrivals_frames id noted before place (Arrived arrival ∷ entries) all h e =
    ap₂ (λ (frame : Bytes) (rest : List Bytes). frame ∷ rest)
    (later_is noted arrival.id (notification_type before arrival.id) arrival
    ∙ ap (λ (type : MessageType). (as_told (noted_number noted arrival.id) type arrival).bytes)
    (kind_stays before (Arrived arrival ∷ entries) arrival.id h.0 ∙ ap (λ (some : List Entry). notification_type some arrival.id) e))
    (arrivals_frames id noted (before ++ Arrived arrival ∷ []) (place + 1) entries all h.1 (append_assoc before (Arrived arrival ∷ []) entries ∙ e))

-- ---- each by its place

pub frame_known : (events : List Event) (id : Text) → IsAccepted events → (k : ℕ) → k < frames_known events id → frame_at events id k ≡ option_map row_frame (slice_get (journal_rows events id) k)
frame_known events id accepted k low =
    ap (option_map bytes_of) ((pieces_are_rows events id accepted).at_begin k low)
    ∙ sym (slice_get-map bytes_of (journal_pieces (invocation_begun events id) (entries_of events id)) k)
    ∙ ap (λ (frames : List Bytes). slice_get frames k) (journal_frames events id accepted)
    ∙ slice_get-map row_frame (journal_rows events id) k

pub frame_later : (events : List Event) (id : Text) → IsAccepted events → (k : ℕ)
    → frame_at events id (frames_known events id + k) ≡ option_map (later_frame (outcomes_noted events id)) (slice_get (arrival_rows events id) (arrivals_known events id + k))
frame_later events id accepted k =
    let later = later_piece (entries_of events id) (outcomes_noted events id) in
    ap (option_map bytes_of) ((pieces_are_rows events id accepted).behind k ∙ sym (slice_get-map later (recorded_arrivals events id) (arrivals_known events id + k)))
    ∙ sym (slice_get-map bytes_of (map later (recorded_arrivals events id)) (arrivals_known events id + k))
    ∙ ap (λ (frames : List Bytes). slice_get frames (arrivals_known events id + k))
    (sym (arrivals_frames id (outcomes_noted events id) [] 1 (entries_of events id) (entries_of events id) (all_asked_before id events accepted) refl))
    ∙ slice_get-map (later_frame (outcomes_noted events id)) (arrival_rows events id) (arrivals_known events id + k)
