-- Which outbox the tables keep, and which of its rows is read.
use Rattle.std.specs.Prelude.{◌≡◌, ℕ, ◌<◌, ◌^◌, true, IsTrue, IsUtf8, List, map, Option, is_some, option_map}
use Rattle.std.specs.List.{AllByRecursion, find}
use Rattle.sqlite.specs.State.{State, HasCleanDisk}
use Rattle.journal_model.specs.Notification.{Bytes}
use Rattle.journal_model.specs.Event.{Event}
use Rattle.journal_model.specs.State.{value_of_key}
use Rattle.delivery_laws.specs.Message.{message_at}
use Rattle.delivery_laws.specs.Outbox.{has_number, Outbox, outbox_object, outbox_state, OwedRow, row_entry, row_key, row_value}
use Rattle.delivery_laws.specs.Posted.{ascend_to}
use Rattle.store_tables.specs.Records.{Holds, Records}
use Rattle.store_tables.specs.declared.row.StateRow.{StateRow}
use Rattle.store_model.specs.KeptRecords.{AreStates, state_row}
use Rattle.store_deliveries.specs.declared.row.OwedMessage.{OwedMessage}

-- ---- in the table

-- what the code can hold of a row
pub record FitsRow (row : OwedRow) : Type 0 where
  pub number : row.number < 2 ^ 64
  pub place : row.place < 2 ^ 32
  pub sender : IsUtf8 row.sender

-- a row of the table is this one
pub record IsKeptAs (row : OwedRow) (kept : StateRow) : Type 0 where
  pub key : kept.key ≡ row_key row.number
  pub value : kept.value ≡ row_value row

abbrev pub kept_row : OwedRow → StateRow
kept_row row = state_row outbox_object (row_entry row)

-- the row of the table under a key
abbrev pub row_of_key : Outbox → Bytes → Option StateRow
row_of_key outbox key = option_map (λ (value : Bytes). state_row outbox_object (key, value)) (value_of_key (outbox_state outbox) key)

-- all of the table's
abbrev pub kept_rows : Outbox → List StateRow
kept_rows outbox = map (state_row outbox_object) (outbox_state outbox)

-- the rows of the object whose name is empty are those of the outbox
pub record KeepsOutbox (outbox : Outbox) (s : State) : Type 0 where
  pub records : Records
  pub held : Holds s.now.trees records
  pub kept : AreStates outbox_object records (kept_rows outbox)

-- ---- as it is told

-- a row as the code holds it
abbrev pub row_told : OwedMessage → OwedRow
row_told m = record { number = m.number; sender = m.sender; place = m.place }

abbrev pub IsRecorded : List Event → OwedRow → Type 0
IsRecorded events row = is_some (message_at events row.sender row.place) ≡ true

-- the numbers ascend and fit, and each row is that of a message that is recorded
pub record IsOutbox (events : List Event) (outbox : Outbox) : Type 0 where
  pub ascend : ascend_to 0 outbox.given outbox.rows ≡ true
  pub small : outbox.given < 2 ^ 64
  pub recorded : AllByRecursion (IsRecorded events) outbox.rows

-- an open connection keeps it
pub record HasOutbox (events : List Event) (outbox : Outbox) (s : State) : Type 0 where
  pub is : IsOutbox events outbox
  pub keeps : HasCleanDisk s → IsTrue s.is_open → KeepsOutbox outbox s

-- the rows, by ascending numbers
abbrev pub AreRowsOf : Outbox → List OwedMessage → Type 0
AreRowsOf outbox messages = map row_told messages ≡ outbox.rows

-- the row of a number
abbrev pub row_of_number : Outbox → ℕ → Option OwedRow
row_of_number outbox number = find (has_number number) outbox.rows
