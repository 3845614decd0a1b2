-- An outbox: a row for each message that is owed. The rows are the state of the object whose name is empty, which is that of no invocation; so they
-- are kept as any state is. No event that is asked for changes them.
use Rattle.std.specs.Prelude.{◌≡◌, ℕ, zero, suc, ◌+◌, ◌-◌, ◌/◌, ◌%◌, ◌^◌, nat_lt, nat_le, ◌==◌, Bool, false, not, ◌&&◌, if◌then◌else◌, List, [], ◌∷◌, ◌++◌, length, map, filter, is_some, bytes_eq}
use Rattle.journal_model.specs.Notification.{Bytes, Text}
use Rattle.journal_model.specs.Request.{Request}
use Rattle.journal_model.specs.State.{StateMap}
use Rattle.journal_model.specs.Event.{Frame, Event}
use Rattle.journal_model.specs.Journal.{entries_of}
use Rattle.journal_model.specs.declared.cause.Cause.{Cause}
use Rattle.journal_model.specs.declared.cause.Cause.TheVariants.{NumbersUsedUp}
use Rattle.journal_model.specs.Cause.{those_that_hold}
use Rattle.delivery_laws.specs.Message.{message_of}

-- a message by its number, its sender and its place
pub record OwedRow : Type 0 where
  pub number : ℕ
  pub sender : Text
  pub place : ℕ

-- the greatest number that was given, and the rows by ascending numbers
pub record Outbox : Type 0 where
  pub given : ℕ
  pub rows : List OwedRow

abbrev pub no_messages : Outbox
no_messages = record { given = 0; rows = [] }

abbrev pub is_same : Text → ℕ → Text → ℕ → Bool
is_same sender place other at = bytes_eq sender other && (place == at)

abbrev pub is_row_of : Text → ℕ → OwedRow → Bool
is_row_of sender place row = is_same row.sender row.place sender place

abbrev pub has_number : ℕ → OwedRow → Bool
has_number number row = row.number == number

-- the row that an event's request puts, under this number: the request's place is the next one of its sender
abbrev pub rows_put : List Event → ℕ → Event → List OwedRow
rows_put events number (Event.Move id attempt (Frame.Command request)) =
    if is_some (message_of request) then record { number = number; sender = id; place = suc (length (entries_of events id)) } ∷ [] else []
rows_put events number _ = []

-- a number is given once, also behind a row that is gone
abbrev pub with_rows : List OwedRow → Outbox → Outbox
with_rows [] outbox = outbox
with_rows (row ∷ rows) outbox = with_rows rows (record { given = row.number; rows = outbox.rows ++ row ∷ [] })

abbrev pub without_number : ℕ → Outbox → Outbox
without_number number outbox = record outbox { rows = filter (λ row. not (has_number number row)) outbox.rows }

-- a request that needs a number of more than 64 bits is refused
abbrev pub asks_others : Event → Bool
asks_others (Event.Move id attempt (Frame.Command request)) = is_some (message_of request)
asks_others _ = false

abbrev pub number_causes : Outbox → Event → List Cause
number_causes outbox event = those_that_hold ((asks_others event && nat_le (2 ^ 64 - 1) outbox.given, NumbersUsedUp) ∷ [])

-- ---- as a state

abbrev pub outbox_object : Text
outbox_object = []

-- a number in so many hex digits
abbrev pub digit : ℕ → ℕ
digit n = if nat_lt n 10 then 48 + n else 87 + n

abbrev pub hex_text : ℕ → ℕ → Text
hex_text zero n = []
hex_text (suc k) n = hex_text k (n / 16) ++ digit (n % 16) ∷ []

-- the rows' keys ascend as their numbers do, behind that of the greatest number that was given
abbrev pub given_key : Bytes
given_key = []

abbrev pub row_key : ℕ → Bytes
row_key number = hex_text 16 number

abbrev pub row_value : OwedRow → Bytes
row_value row = hex_text 8 row.place ++ row.sender

abbrev pub given_entries : ℕ → StateMap
given_entries zero = []
given_entries (suc n) = (given_key, row_key (suc n)) ∷ []

abbrev pub row_entry : OwedRow → Bytes × Bytes
row_entry row = (row_key row.number, row_value row)

abbrev pub outbox_state : Outbox → StateMap
outbox_state outbox = given_entries outbox.given ++ map row_entry outbox.rows

-- what puts rows, the first one first, and what drops one
abbrev pub puts_of : List OwedRow → List Request
puts_of [] = []
puts_of (row ∷ rows) = Request.SetState given_key (row_key row.number) [] ∷ Request.SetState (row_key row.number) (row_value row) [] ∷ puts_of rows

abbrev pub drop_of : ℕ → Request
drop_of number = Request.ClearState (row_key number) []

abbrev pub is_edit_of : Text → Event → Bool
is_edit_of object (Event.Edit other request) = bytes_eq other object
is_edit_of object _ = false
