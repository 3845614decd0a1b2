-- The place up to which an attempt was handed its input, when it was suspended or ended.
use Rattle.std.specs.Prelude.{ℕ, ◌+◌, ◌-◌, nat_le, if◌then◌else◌, List, [], ◌∷◌, ◌++◌, length, Option, Some, None, bytes_eq}
use Rattle.journal_model.specs.Notification.{Text}
use Rattle.journal_model.specs.State.{StateMap}
use Rattle.journal_model.specs.declared.invocation.NewInvocation.{NewInvocation}
use Rattle.journal_model.specs.Event.{Frame, Event}
use Rattle.journal_model.specs.Journal.{Entry, Recorded, Arrived, invocation_begun, entries_from, entries_added, starting_state}
use Rattle.journal_model.specs.Attempt.{Piece, begins_attempt, input_pieces, bytes_handed}
use Rattle.due_laws.specs.AwakeNotes.{or_kept}

-- the places of entries that stand from this place on; and of the arrivals among them
abbrev pub places_of : ℕ → List Entry → List ℕ
places_of place [] = []
places_of place (entry ∷ entries) = place ∷ places_of (place + 1) entries

abbrev pub places_of_arrivals : ℕ → List Entry → List ℕ
places_of_arrivals place [] = []
places_of_arrivals place (Recorded request ∷ entries) = places_of_arrivals (place + 1) entries
places_of_arrivals place (Arrived arrival ∷ entries) = place ∷ places_of_arrivals (place + 1) entries

-- the places of a journal: the input's, then those of its entries
abbrev pub journal_places : Option NewInvocation → List Entry → List ℕ
journal_places None entries = []
journal_places (Some new) entries = 0 ∷ places_of 1 entries

-- the places of what the last attempt's input consists of: of the journal as it was when the attempt was begun, then of each later arrival
abbrev pub places_from : StateMap → List Event → Text → List ℕ
places_from start [] id = []
places_from start (event ∷ earlier) id =
    if begins_attempt id event then journal_places (invocation_begun earlier id) (entries_from start earlier id)
    else places_from start earlier id
    ++ places_of_arrivals (1 + length (entries_from start earlier id)) (entries_added start earlier id event (entries_from start earlier id))

abbrev pub input_places : List Event → Text → List ℕ
input_places events id = places_from (starting_state events id) events id

-- the place behind the last piece that is wholly among so many bytes
abbrev pub place_behind : ℕ → List Piece → List ℕ → ℕ → ℕ
place_behind behind [] places count = behind
place_behind behind (piece ∷ pieces) [] count = behind
place_behind behind (piece ∷ pieces) (place ∷ places) count =
    if nat_le (length piece.bytes) count then place_behind (place + 1) pieces places (count - length piece.bytes) else behind

-- the place behind the last entry that the last attempt was handed whole, 0 where there is none
abbrev pub handed_place : List Event → Text → ℕ
handed_place events id = place_behind 0 (input_pieces events id) (input_places events id) (bytes_handed events id)

-- that place is kept with a suspension and with the end frame
abbrev pub handed_at : List Event → Text → Frame → Option ℕ
handed_at earlier id (Frame.Suspend suspension) = Some (handed_place earlier id)
handed_at earlier id Frame.End = Some (handed_place earlier id)
handed_at earlier id _ = None

abbrev pub handed_in : List Event → Text → Event → Option ℕ
handed_in earlier id (Event.Move other attempt frame) = if bytes_eq other id then handed_at earlier id frame else None
handed_in earlier id _ = None

-- of the last attempt, if it was suspended or ended its invocation
abbrev pub handed_of : List Event → Text → Option ℕ
handed_of [] id = None
handed_of (event ∷ earlier) id = if begins_attempt id event then None else or_kept (handed_in earlier id event) (handed_of earlier id)
