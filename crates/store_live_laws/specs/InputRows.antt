-- From which rows an attempt's input is read, and what is kept of it.
use Rattle.std.specs.Prelude.{◌≡◌, ℕ, zero, suc, ◌+◌, ◌<◌, ◌==◌, if◌then◌else◌, List, [], ◌∷◌, length, slice_get, Option, Some, None, option_map}
use Rattle.std.specs.List.{list_any}
use Rattle.protocol_types.specs.declared.message_type.MessageType.TheVariants.{ProposeRunCompletionAck}
use Rattle.journal_model.specs.Notification.{Bytes, Text}
use Rattle.journal_model.specs.Spelling.{frame_bytes, acknowledgement_payload}
use Rattle.journal_model.specs.Event.{Event}
use Rattle.journal_model.specs.Journal.{entries_of, recorded_arrivals}
use Rattle.journal_model.specs.Attempt.{Piece, input_pieces}
use Rattle.journal_model.specs.Cause.{IsAccepted}
use Rattle.due_laws.specs.Rows.{frames_known, arrivals_known, outcomes_noted}
use Rattle.due_laws.specs.InputParts.{ReadsRows, frames_whole}
use Rattle.store_tables.specs.declared.row.EntryRow.{EntryRow}
use Rattle.store_model.specs.Places.{input_places, handed_place}
use Rattle.store_model.specs.Progress.{progress_of}
use Rattle.store_model.specs.KeptRecords.{journal_rows}
use Rattle.store_model.specs.Lookups.{arrival_rows, row_frame}

-- the frame that is read of the row of a later arrival: that the outcome came, where it was proposed so
abbrev pub as_answered : List ℕ → Option ℕ → Bytes → Bytes
as_answered noted None frame = frame
as_answered noted (Some n) frame = if list_any (λ m. m == n) noted then frame_bytes ProposeRunCompletionAck (acknowledgement_payload n) else frame

abbrev pub later_frame : List ℕ → EntryRow → Bytes
later_frame noted row = as_answered noted row.answered (row_frame row)

abbrev pub frame_at : List Event → Text → ℕ → Option Bytes
frame_at events id k = option_map (λ (piece : Piece). piece.bytes) (slice_get (input_pieces events id) k)

-- a frame that was known at the begin is that of the row at its place, and each other that of the row of the arrival with its ordinal
pub record FramesAreRead (events : List Event) (id : Text) : Type 0 where
  pub at_begin : (k : ℕ) → k < frames_known events id → frame_at events id k ≡ option_map row_frame (slice_get (journal_rows events id) k)
  pub behind : (k : ℕ) → frame_at events id (frames_known events id + k)
      ≡ option_map (later_frame (outcomes_noted events id)) (slice_get (arrival_rows events id) (arrivals_known events id + k))
  -- and its place
  pub place : (k : ℕ) → k < frames_known events id → slice_get (input_places events id) k ≡ Some k
  pub place_behind : (k : ℕ) → slice_get (input_places events id) (frames_known events id + k)
      ≡ option_map (λ (row : EntryRow). row.place) (slice_get (arrival_rows events id) (arrivals_known events id + k))

abbrev pub AllFramesAreRead : Type 0
AllFramesAreRead = (events : List Event) (id : Text) → IsAccepted events → FramesAreRead events id

-- what was known at the begin is kept with the invocation then
abbrev pub KnownAtBegin : Type 0
KnownAtBegin = (events : List Event) (id : Text) (now : ℕ)
    → (frames_known (Event.Begin id now ∷ events) id ≡ (progress_of events id).entries) × (arrivals_known (Event.Begin id now ∷ events) id ≡ length (recorded_arrivals events id))

-- the place behind the last frame that was handed out whole
abbrev pub behind_place : Option ℕ → ℕ
behind_place None = 0
behind_place (Some place) = place + 1

abbrev pub place_after : ℕ → List ℕ → ℕ
place_after zero places = 0
place_after (suc n) places = behind_place (slice_get places n)

abbrev pub HandedIsRead : Type 0
HandedIsRead = (events : List Event) (id : Text) (read : ℕ) (rest : Bytes) → ReadsRows events id read rest
    → handed_place events id ≡ place_after (frames_whole read rest) (input_places events id)
