-- What the database keeps of accepted events, and what is made ready of one more.
use Rattle.std.specs.Prelude.{◌≡◌, List, [], Result, Ok, Err}
use Rattle.sqlite.specs.State.{State}
use Rattle.journal_model.specs.Event.{Event}
use Rattle.journal_model.specs.Cause.{causes_of, IsAccepted}
use Rattle.store_tables.specs.Records.{Records, Holds}
use Rattle.store_model.specs.KeptRecords.{IsKept}
use Rattle.store_refusals.specs.declared.refusal.Refusal.{Refusal}
use Rattle.store_refusals.specs.RefusalConditions.{IsRefused}

-- the tables of a connection hold the records that are kept of these events
pub record Keeps (events : List Event) (s : State) : Type 0 where
  pub accepted : IsAccepted events
  pub records : Records
  pub held : Holds s.now.trees records
  pub kept : IsKept events records

-- an event is refused, or no cause holds and this is made ready
abbrev pub Prepares : {P : Type 0} → List Event → Event → (P → Type 0) → Result P Refusal → Type 0
Prepares events event IsMade (Ok made) = (causes_of events event ≡ []) × IsMade made
Prepares events event IsMade (Err why) = IsRefused (causes_of events event) why

-- what is asked of the events is answered, but for a circumstance
abbrev pub TellsOrRefuses : {A : Type 0} → (A → Type 0) → Result A Refusal → Type 0
TellsOrRefuses IsAnswer (Ok answer) = IsAnswer answer
TellsOrRefuses IsAnswer (Err why) = IsRefused [] why
