-- What is kept in memory of an attempt's input, which is read by the row, agrees with the accepted events.
use Rattle.std.specs.Prelude.{◌≡◌, ℕ, ◌+◌, ◌-◌, ◌<◌, ◌^◌, Bool, true, false, if◌then◌else◌, List, [], ◌∷◌, length, map, take, slice_get, Option, Some, None, is_some, option_map}
use Rattle.protocol_types.specs.declared.message_type.MessageType.TheVariants.{ProposeRunCompletionAck}
use Rattle.journal_model.specs.Notification.{Text}
use Rattle.journal_model.specs.Spelling.{frame_bytes, acknowledgement_payload}
use Rattle.journal_model.specs.Event.{Event}
use Rattle.journal_model.specs.Journal.{Entry, Recorded, Arrived, begins, version_of, entries_of, recorded_arrivals}
use Rattle.journal_model.specs.Attempt.{Piece, begins_attempt, bytes_asked, acknowledged, input_pieces, input_left}
use Rattle.journal_model.specs.Cause.{IsAccepted}
use Rattle.input_laws.specs.ArrivalsRead.{arrivals_among}
use Rattle.due_laws.specs.Awake.{arrivals_heard}
use Rattle.due_laws.specs.Rows.{frames_known, arrivals_known, outcomes_unread}
use Rattle.due_laws.specs.InputParts.{ReadsRows}
use Rattle.store_tables.specs.declared.row.EntryRow.{EntryRow}
use Rattle.store_model.specs.Places.{input_places, handed_place}
use Rattle.store_model.specs.KeptRecords.{journal_rows}
use Rattle.store_model.specs.Lookups.{arrival_rows, row_frame}
use Rattle.store_live.specs.declared.input.FrameRead.{FrameRead}
use Rattle.store_live.specs.declared.input.NextRow.{NextRow}
use Rattle.store_live.specs.Input.{CanCount, InputKept, at_begin, input_handed_out, is_first, next_ordinal, next_row, with_frame, with_outcome_kept}
use Rattle.store_live_laws.specs.InputRows.{place_after}

pub record IsInputOf (events : List Event) (id : Text) (m : InputKept) : Type 0 where
  pub known : m.known ≡ frames_known events id
  pub arrivals : m.arrivals ≡ arrivals_known events id
  pub reads : ReadsRows events id m.read m.rest
  pub behind : m.behind ≡ place_after m.read (input_places events id)
  pub counted : m.counted ≡ arrivals_among (take m.read (input_pieces events id))
  pub handed : m.handed ≡ handed_place events id
  pub heard : m.heard ≡ arrivals_heard events id
  -- those whose arrivals were not read
  pub unread : m.unread ≡ outcomes_unread events id (m.arrivals + (m.read - m.known))

-- ---- the next row

-- the row that is asked for, where there is one
abbrev pub row_asked : List Event → Text → NextRow → Option EntryRow
row_asked events id (NextRow.Entry place) = slice_get (journal_rows events id) place
row_asked events id (NextRow.Arrival ordinal) = slice_get (arrival_rows events id) (ordinal - 1)

-- its frame: what is recorded, or that the outcome came
abbrev pub plain_read : EntryRow → FrameRead
plain_read row = record { place = row.place; is_arrival = is_some row.arrival; is_acknowledgement = false; bytes = row_frame row }

abbrev pub told_read : ℕ → EntryRow → FrameRead
told_read completion row = record {
  place = row.place;
  is_arrival = is_some row.arrival;
  is_acknowledgement = true;
  bytes = frame_bytes ProposeRunCompletionAck (acknowledgement_payload completion);
}

abbrev pub arrival_read : (unread : List ℕ) → Option ℕ → EntryRow → FrameRead
arrival_read unread None row = plain_read row
arrival_read unread (Some completion) row = if is_first unread completion then told_read completion row else plain_read row

-- of those that were known at the begin the first, and of later arrivals the second where the attempt is to acknowledge it
abbrev pub frame_read : (unread : List ℕ) → NextRow → EntryRow → FrameRead
frame_read unread (NextRow.Entry place) row = plain_read row
frame_read unread (NextRow.Arrival ordinal) row = arrival_read unread row.answered row

-- ---- how each event, and each row that is read, changes it

pub record InputAgrees : Type 0 where
  pub begun : (events : List Event) (id : Text) (now : ℕ)
      → IsInputOf (Event.Begin id now ∷ events) id (at_begin (1 + length (entries_of events id)) (length (recorded_arrivals events id)))
  -- commands, notes, arrivals and ticks leave it
  pub stays : (events : List Event) (event : Event) (id : Text) (m : InputKept) → IsAccepted (event ∷ events) → begins id event ≡ false → begins_attempt id event ≡ false
      → bytes_asked id event ≡ None → acknowledged (version_of events id) id event ≡ None → IsInputOf events id m → IsInputOf (event ∷ events) id m
  -- an outcome that is to be acknowledged is put behind the others
  pub notes : (events : List Event) (event : Event) (id : Text) (m : InputKept) (n : ℕ) → IsAccepted (event ∷ events) → begins id event ≡ false → begins_attempt id event ≡ false
      → bytes_asked id event ≡ None → acknowledged (version_of events id) id event ≡ Some n → IsInputOf events id m → IsInputOf (event ∷ events) id (with_outcome_kept n m)
  -- room is made
  pub makes_room : (events : List Event) (id : Text) (m : InputKept) (room : ℕ) → IsInputOf events id m → IsInputOf events id (record m { room = room })
  -- the next row is read, once all before it was handed out
  pub reads : (events : List Event) (id : Text) (m : InputKept) (row : EntryRow) → IsAccepted events → m.rest ≡ [] → row_asked events id (next_row m) ≡ Some row
      → IsInputOf events id m → IsInputOf events id (with_frame (frame_read m.unread (next_row m) row) m)
  -- there is none where nothing is left
  pub ends : (events : List Event) (id : Text) (m : InputKept) → IsAccepted events → m.rest ≡ [] → row_asked events id (next_row m) ≡ None
      → IsInputOf events id m → input_left events id ≡ []
  -- bytes of what is left of the frame that was read last are handed out
  pub hands : (events : List Event) (id : Text) (attempt most : ℕ) (m : InputKept) → IsAccepted (Event.Feed id attempt (length (take most m.rest)) ∷ events) → IsInputOf events id m
      → IsInputOf (Event.Feed id attempt (length (take most m.rest)) ∷ events) id (input_handed_out most m)

-- and all is counted in 32 bits, where the entries are
pub record InputCounts (events : List Event) (id : Text) (m : InputKept) : Type 0 where
  pub ordinal : next_ordinal m < 2 ^ 32
  pub frame : (row : EntryRow) → row_asked events id (next_row m) ≡ Some row → CanCount m (frame_read m.unread (next_row m) row)

abbrev pub AllInputsCount : Type 0
AllInputsCount = (events : List Event) (id : Text) (m : InputKept) → IsAccepted events → 1 + length (entries_of events id) < 2 ^ 32 → IsInputOf events id m → InputCounts events id m

-- ---- whether a frame is an arrival's, from its row: of those known at the begin by the entry, and of the others each

abbrev pub is_arrived : Entry → Bool
is_arrived (Recorded request) = false
is_arrived (Arrived arrival) = true

pub record ArrivalsAreTold (events : List Event) (id : Text) : Type 0 where
  pub at_begin : (k : ℕ) → k < frames_known events id
      → option_map (λ (piece : Piece). piece.is_arrival) (slice_get (input_pieces events id) k) ≡ slice_get (false ∷ map is_arrived (entries_of events id)) k
  pub behind : (k : ℕ) (piece : Piece) → slice_get (input_pieces events id) (frames_known events id + k) ≡ Some piece → piece.is_arrival ≡ true

abbrev pub AllArrivalsAreTold : Type 0
AllArrivalsAreTold = (events : List Event) (id : Text) → IsAccepted events → ArrivalsAreTold events id
