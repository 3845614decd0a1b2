-- Which records are kept of the accepted events.
use Rattle.std.specs.Prelude.{◌≡◌, ℕ, ◌+◌, Bool, true, false, List, [], ◌∷◌, ◌++◌, length, map, filter, Option, Some, None, unwrap_or, IsPermutation}
use Rattle.journal_model.specs.Notification.{Bytes, Text}
use Rattle.journal_model.specs.declared.notification.NotificationId.{NotificationId}
use Rattle.journal_model.specs.declared.notification.NotificationId.TheVariants.{CompletionId}
use Rattle.journal_model.specs.Request.{completions_asked}
use Rattle.journal_model.specs.declared.invocation.NewInvocation.{NewInvocation}
use Rattle.journal_model.specs.declared.invocation.StateMode.{StateMode}
use Rattle.journal_model.specs.Event.{Event}
use Rattle.journal_model.specs.Spelling.{request_type, request_payload, notification_payload, input_payload}
use Rattle.journal_model.specs.Journal.{Entry, Recorded, Arrived, invocation_begun, arrivals_in, entries_of, object_state, sleep_in}
use Rattle.journal_model.specs.Attempt.{notification_type}
use Rattle.protocol_types.specs.declared.version.Version.{Version}
use Rattle.protocol_types.specs.Version.{oldest_version, version_at}
use Rattle.protocol_types.specs.declared.message_type.MessageType.{MessageType}
use Rattle.protocol_types.specs.declared.message_type.MessageType.TheVariants.{InputCommand}
use Rattle.store_tables.specs.Records.{Records, is_of_object}
use Rattle.store_tables.specs.declared.row.InvocationRow.{InvocationRow}
use Rattle.store_tables.specs.declared.row.EntryRow.{EntryRow}
use Rattle.store_tables.specs.declared.row.StateRow.{StateRow}
use Rattle.store_tables.specs.Questions.{DoAscend, journal_of}
use Rattle.store_model.specs.Progress.{first_item, second_of, progress_of}
use Rattle.store_model.specs.Sleeps.{sleeps_kept}

-- ---- journals

abbrev pub answered_by : NotificationId → Option ℕ
answered_by (CompletionId n) = Some n
answered_by _ = None

abbrev pub moment_of : List (ℕ × ℕ) → ℕ
moment_of [] = 0
moment_of (sleep ∷ sleeps) = sleep.0

-- the row of an entry that asks for nothing and answers nothing
abbrev pub plain_row : Text → ℕ → MessageType → Bytes → EntryRow
plain_row id place kind payload = record {
  invocation = id;
  place = place;
  kind = kind;
  payload = payload;
  completion = None;
  second_completion = None;
  answered = None;
  moment = 0;
  arrival = None;
}

-- the row of an entry at a place; an arrival's kind is that of the request that asked for it, which is among the entries before it
abbrev pub entry_row : Text → List Entry → ℕ → Entry → EntryRow
entry_row id before place (Recorded request) = record {
  invocation = id;
  place = place;
  kind = request_type request;
  payload = request_payload request;
  completion = first_item (completions_asked request);
  second_completion = second_of (completions_asked request);
  answered = None;
  moment = moment_of (sleep_in request);
  arrival = None;
}
entry_row id before place (Arrived arrival) =
    record (plain_row id place (notification_type before arrival.id) (notification_payload arrival)) { answered = answered_by arrival.id; arrival = Some (1 + length (arrivals_in before)) }

-- the rows of entries that stand behind others, from a place on
abbrev pub rows_from : Text → List Entry → ℕ → List Entry → List EntryRow
rows_from id before place [] = []
rows_from id before place (entry ∷ entries) = entry_row id before place entry ∷ rows_from id (before ++ entry ∷ []) (place + 1) entries

abbrev pub input_row : NewInvocation → EntryRow
input_row new = plain_row new.id 0 InputCommand (input_payload new.headers new.input)

abbrev pub rows_of_journal : Option NewInvocation → Text → List Entry → List EntryRow
rows_of_journal None id entries = []
rows_of_journal (Some new) id entries = input_row new ∷ rows_from id [] 1 entries

-- an invocation's rows: its input's, then those of its entries by place
abbrev pub journal_rows : List Event → Text → List EntryRow
journal_rows events id = rows_of_journal (invocation_begun events id) id (entries_of events id)

-- ---- invocations

-- the invocations that were begun, the first one first
abbrev pub begun_by : Event → List NewInvocation
begun_by (Event.Invoke new) = new ∷ []
begun_by _ = []

abbrev pub begun : List Event → List NewInvocation
begun [] = []
begun (event ∷ earlier) = begun earlier ++ begun_by event

abbrev pub is_shown_whole : StateMode → Bool
is_shown_whole StateMode.Whole = true
is_shown_whole StateMode.None = false

-- the version that an invocation speaks, by its number: one of another number is not accepted
unfoldable pub version_kept : ℕ → Version
version_kept number = unwrap_or (version_at number) oldest_version

abbrev pub invocation_row : List Event → NewInvocation → InvocationRow
invocation_row events new = record {
  id = new.id;
  object = new.object;
  version = version_kept new.version;
  seed = new.seed;
  is_whole = is_shown_whole new.state;
  progress = progress_of events new.id;
}

-- ---- states

abbrev pub state_row : Text → Bytes × Bytes → StateRow
state_row object entry = record { object = object; key = entry.0; value = entry.1 }

-- an object's rows are these, in any order, and by ascending keys they are in this one
abbrev pub AreStates : Text → Records → List StateRow → Type 0
AreStates object r rows = DoAscend (λ (s : StateRow). s.key) rows × IsPermutation (filter (is_of_object object) r.states) rows

-- ---- all

pub record IsKept (events : List Event) (r : Records) : Type 0 where
  pub invocations : r.invocations ≡ map (invocation_row events) (begun events)
  pub journals : (id : Text) → journal_of id r ≡ journal_rows events id
  pub states : (object : Text) → AreStates object r (map (state_row object) (object_state events object))
  pub sleeps : r.sleeps ≡ sleeps_kept events
