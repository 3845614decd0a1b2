-- What an attempt has read of its input.
use Rattle.std.specs.Prelude.{◌≡◌, ℕ, ◌+◌, if◌then◌else◌, List, [], ◌∷◌, ◌++◌, take}
use Rattle.journal_model.specs.Notification.{Bytes, Text, Arrival}
use Rattle.journal_model.specs.Event.{Event}
use Rattle.journal_model.specs.Journal.{recorded_arrivals}
use Rattle.journal_model.specs.Attempt.{Piece, input_pieces, input_bytes, input_left}

-- how many arrivals are among these frames
abbrev pub arrivals_among : List Piece → ℕ
arrivals_among [] = 0
arrivals_among (piece ∷ pieces) = (if piece.is_arrival then 1 else 0) + arrivals_among pieces

-- the attempt has read these frames of its input. The bytes that it holds, and those that are left in the store, are the other frames
pub record HasReadPieces (events : List Event) (id : Text) (held : Bytes) (read unread : List Piece) : Type 0 where
  pub pieces : input_pieces events id ≡ read ++ unread
  pub bytes : held ++ input_left events id ≡ input_bytes unread

-- the arrivals that it has read
abbrev pub arrivals_read : List Event → Text → List Piece → List Arrival
arrivals_read events id read = take (arrivals_among read) (recorded_arrivals events id)
