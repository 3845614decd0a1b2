-- What an invocation has asked of others, and nobody has answered.
use Rattle.std.specs.Prelude.{ℕ, ◌+◌, ◌==◌, Bool, true, false, not, ◌||◌, if◌then◌else◌, List, [], ◌∷◌, ◌++◌, filter_map, Option, Some, None, is_some}
use Rattle.std.specs.List.{list_any}
use Rattle.std.specs.BTreeSet.{insert_key}
use Rattle.std.specs.Ordering.{nat_cmp}
use Rattle.protocol_types.specs.declared.message_type.MessageType.{MessageType}
use Rattle.protocol_types.specs.declared.message_type.MessageType.TheVariants as types
use Rattle.journal_model.specs.Notification.{Text}
use Rattle.journal_model.specs.Request.{Request, completions_asked}
use Rattle.journal_model.specs.Spelling.{request_type, request_payload}
use Rattle.journal_model.specs.Event.{Event}
use Rattle.journal_model.specs.Journal.{Entry, Recorded, Arrived, entries_of, is_awaited, is_open}
use Rattle.store_tables.specs.declared.row.EntryRow.{EntryRow}
use Rattle.store_model.specs.KeptRecords.{journal_rows}
use Rattle.store_model.specs.Progress.{first_item, second_of}
use Rattle.store_reads.specs.declared.requests.OpenRequest.{OpenRequest}

-- ---- of the events

-- whether a completion of a request comes from others: a sleep ends by a tick, a run by the attempt, and state is read where it is kept
abbrev pub asks_others : Request → Bool
asks_others (Request.GetPromise key n name) = true
asks_others (Request.PeekPromise key n name) = true
asks_others (Request.CompletePromise key value n name) = true
asks_others (Request.CallService call m n name) = true
asks_others (Request.OneWayCall call time n name) = true
asks_others (Request.AttachInvocation target n name) = true
asks_others (Request.GetInvocationOutput target n name) = true
asks_others _ = false

-- a completion by its number, unless it has come
abbrev pub unless_come : (ℕ → Bool) → Option ℕ → Option ℕ
unless_come has_come None = None
unless_come has_come (Some n) = if has_come n then None else Some n

-- what is told, if a completion has not come
abbrev pub if_open : OpenRequest → List OpenRequest
if_open request = if is_some request.completion || is_some request.second_completion then request ∷ [] else []

-- of an entry at its place, where these have come
abbrev pub open_request_of : (ℕ → Bool) → ℕ → Request → OpenRequest
open_request_of has_come place request = record {
  place = place;
  ty = request_type request;
  payload = request_payload request;
  completion = unless_come has_come (first_item (completions_asked request));
  second_completion = unless_come has_come (second_of (completions_asked request));
}

abbrev pub entry_told : (ℕ → Bool) → ℕ → Entry → List OpenRequest
entry_told has_come place (Recorded request) = if asks_others request then if_open (open_request_of has_come place request) else []
entry_told has_come place (Arrived arrival) = []

-- of entries from a place on
abbrev pub told_from : (ℕ → Bool) → ℕ → List Entry → List OpenRequest
told_from has_come place [] = []
told_from has_come place (entry ∷ entries) = entry_told has_come place entry ++ told_from has_come (place + 1) entries

-- those of an open invocation, by place
abbrev pub open_requests : List Event → Text → List OpenRequest
open_requests events id = if is_open events id then told_from (λ n. not (is_awaited (entries_of events id) n)) 1 (entries_of events id) else []

-- ---- of rows

-- the rows of an open invocation's journal
abbrev pub journal_if_open : List Event → Text → Option (List EntryRow)
journal_if_open events id = if is_open events id then Some (journal_rows events id) else None

-- whether a request of this type asks others
abbrev pub asks_others_by : MessageType → Bool
asks_others_by types.GetPromiseCommand = true
asks_others_by types.PeekPromiseCommand = true
asks_others_by types.CompletePromiseCommand = true
asks_others_by types.CallCommand = true
asks_others_by types.OneWayCallCommand = true
asks_others_by types.AttachInvocationCommand = true
asks_others_by types.GetInvocationOutputCommand = true
asks_others_by _ = false

-- whether one of the rows answers a completion
abbrev pub is_answered : List EntryRow → ℕ → Bool
is_answered rows n = list_any (λ m. m == n) (filter_map (λ (row : EntryRow). row.answered) rows)

-- the ascending numbers with one more, if there is one
abbrev pub with_number : Option ℕ → List ℕ → List ℕ
with_number None numbers = numbers
with_number (Some n) numbers = insert_key nat_cmp numbers n

abbrev pub request_read : (ℕ → Bool) → EntryRow → OpenRequest
request_read has_come row = record {
  place = row.place;
  ty = row.kind;
  payload = row.payload;
  completion = unless_come has_come row.completion;
  second_completion = unless_come has_come row.second_completion;
}

abbrev pub row_told : (ℕ → Bool) → EntryRow → List OpenRequest
row_told has_come row = if asks_others_by row.kind then if_open (request_read has_come row) else []

abbrev pub rows_told : (ℕ → Bool) → List EntryRow → List OpenRequest
rows_told has_come [] = []
rows_told has_come (row ∷ rows) = row_told has_come row ++ rows_told has_come rows
