-- What is written beside a frame whose request asks something of another invocation.
use Rattle.std.specs.Prelude.{◌≡◌, ℕ, suc, ◌++◌, Bool, true, false, if◌then◌else◌, List, [], ◌∷◌, Option, Some, None, Result, Ok, Err}
use Rattle.journal_model.specs.Notification.{Text}
use Rattle.journal_model.specs.Event.{Event, Frame}
use Rattle.delivery_laws.specs.Outbox.{drop_of, given_key, number_causes, Outbox, outbox_object, OwedRow, puts_of, row_key, row_value, rows_put}
use Rattle.store_tables.specs.declared.row.Write.{Write}
use Rattle.store_tables.specs.declared.row.Write.TheVariants.{AddEntry, DropState, PutState}
use Rattle.protocol_types.specs.declared.message_type.MessageType.{MessageType}
use Rattle.protocol_types.specs.declared.message_type.MessageType.TheVariants as types
use Rattle.store_model.specs.Writes.{state_writes, writes_of}
use Rattle.store_refusals.specs.declared.refusal.Refusal.{Refusal}
use Rattle.store_refusals.specs.RefusalConditions.{IsRefused}
use Rattle.store_steps.specs.declared.frame.PreparedFrame.{PreparedFrame}

-- the greatest number that was given, and the row
abbrev pub put_writes : OwedRow → List Write
put_writes row =
    PutState (record { object = outbox_object; key = given_key; value = row_key row.number })
    ∷ PutState (record { object = outbox_object; key = row_key row.number; value = row_value row }) ∷ []

abbrev pub put_writes_of_all : List OwedRow → List Write
put_writes_of_all [] = []
put_writes_of_all (row ∷ rows) = put_writes row ++ put_writes_of_all rows

abbrev pub drop_write : ℕ → Write
drop_write number = DropState outbox_object (row_key number)

-- these are the writes of the object's state that lead from an outbox to the one that it is then
pub record RowsAreWritten : Type 0 where
  pub put : (rows : List OwedRow) → put_writes_of_all rows ≡ state_writes (Some outbox_object) (puts_of rows)
  pub dropped : (number : ℕ) → drop_write number ∷ [] ≡ state_writes (Some outbox_object) (drop_of number ∷ [])

-- whether requests of a type ask something of another invocation that a store delivers
abbrev pub is_asking_type : MessageType → Bool
is_asking_type types.SendSignalCommand = true
is_asking_type types.CompleteAwakeableCommand = true
is_asking_type _ = false

-- the place of the entry that is written first, where its request asks so
abbrev pub place_asked : List Write → Option ℕ
place_asked (AddEntry entry ∷ writes) = if is_asking_type entry.kind then Some entry.place else None
place_asked _ = None

abbrev pub rows_at : (number : ℕ) → Text → Option ℕ → List OwedRow
rows_at number id None = []
rows_at number id (Some place) = record { number = number; sender = id; place = place } ∷ []

-- that is the row of the event's request
abbrev pub PlacesAreAsked : Type 0
PlacesAreAsked = (events : List Event) (number : ℕ) (id : Text) (attempt : ℕ) (frame : Frame)
    → rows_put events number (Event.Move id attempt frame) ≡ rows_at number id (place_asked (writes_of events (Event.Move id attempt frame)))

-- the rows that an event puts
abbrev pub rows_of_event : List Event → Outbox → Event → List OwedRow
rows_of_event events outbox event = rows_put events (suc outbox.given) event

-- All that a frame made ready is kept, and the rows of its request are written behind; or there is no number left.
pub record IsWithRows (events : List Event) (outbox : Outbox) (event : Event) (made all : PreparedFrame) : Type 0 where
  pub writes : all.writes.items ≡ made.writes.items ++ put_writes_of_all (rows_of_event events outbox event)
  pub reply : all.reply ≡ made.reply
  pub acknowledged : all.acknowledged ≡ made.acknowledged

abbrev pub AddsRows : List Event → Outbox → Event → PreparedFrame → Result PreparedFrame Refusal → Type 0
AddsRows events outbox event made (Ok all) = (number_causes outbox event ≡ []) × IsWithRows events outbox event made all
AddsRows events outbox event made (Err why) = IsRefused (number_causes outbox event) why
