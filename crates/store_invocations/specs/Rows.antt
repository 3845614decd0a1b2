-- What the row of an invocation says of the accepted events.
use Rattle.std.specs.Prelude.{◌≡◌, true, not, List, [], ◌∷◌, Option, Some, Result, Ok, Err, is_some, option_map, IsTrue}
use Rattle.sqlite.specs.State.{State, HasCleanDisk}
use Rattle.journal_model.specs.Notification.{Bytes, Text}
use Rattle.journal_model.specs.declared.invocation.NewInvocation.{NewInvocation}
use Rattle.journal_model.specs.Event.{Event}
use Rattle.journal_model.specs.Journal.{invocation_begun, is_open}
use Rattle.journal_model.specs.Cause.{Tests, those_that_hold, is_too_long, IsAccepted}
use Rattle.journal_model.specs.declared.cause.Cause.{Cause}
use Rattle.store_tables.specs.declared.row.InvocationRow.{InvocationRow}
use Rattle.store_model.specs.KeptRecords.{invocation_row}
use Rattle.store_frames.specs.ReadFrames.{AreRead}
use Rattle.store_refusals.specs.declared.refusal.Refusal.{Refusal}
use Rattle.store_refusals.specs.RefusalConditions.{IsRefused}
use Rattle.store_refusals.specs.Preparations.{Keeps}

-- A connection that is open keeps the records of these events, which were accepted, and of which each frame that was taken is that
-- of a message; one that is shut says nothing.
pub record IsStoreOf (events : List Event) (s : State) : Type 0 where
  pub accepted : IsAccepted events
  pub read : AreRead events
  pub keeps : HasCleanDisk s → IsTrue s.is_open → Keeps events s

-- the first test that holds is answered, and if none does this is made
abbrev pub Decides : {A : Type 0} → Tests → (A → Type 0) → Result A Refusal → Type 0
Decides tests IsMade (Ok made) = (those_that_hold tests ≡ []) × IsMade made
Decides tests IsMade (Err why) = IsRefused (those_that_hold tests) why

-- the row that is kept under an id
abbrev pub row_at : List Event → Text → Option InvocationRow
row_at events id = option_map (invocation_row events) (invocation_begun events id)

-- the row of the invocation that was begun under an id
pub record IsRowOf (events : List Event) (id : Text) (row : InvocationRow) : Type 0 where
  pub new : NewInvocation
  pub begun : invocation_begun events id ≡ Some new
  pub named : new.id ≡ id
  pub is : row ≡ invocation_row events new

abbrev pub IsOpenRow : List Event → Text → InvocationRow → Type 0
IsOpenRow events id row = IsRowOf events id row × (is_open events id ≡ true)

-- the invocation was begun
abbrev pub known_tests : List Event → Text → Tests
known_tests events id = (not (is_some (invocation_begun events id)), Cause.UnknownInvocation) ∷ []

-- a payload of which a frame is made is not too long
abbrev pub payload_tests : Bytes → Tests
payload_tests payload = (is_too_long payload, Cause.PayloadTooLong) ∷ []
