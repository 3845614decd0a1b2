-- What a store stands for, and what may become of that.
use Rattle.std.specs.Prelude.{◌≡◌, false, List, ◌∷◌, Option, is_some, bytes_eq}
use Rattle.journal_model.specs.Notification.{Bytes, Text}
use Rattle.journal_model.specs.Event.{Event}
use Rattle.journal_model.specs.Attempt.{live_attempt}
use Rattle.journal_model.specs.Cause.{causes_of, IsAccepted}
use Rattle.store_refusals.specs.declared.refusal.Refusal.{Refusal}
use Rattle.store_refusals.specs.RefusalConditions.{IsRefused}

-- the accepted events, the last one first, and the bytes that came from the live attempt of each invocation and wait to be taken
pub record Standing : Type 0 where
  pub events : List Event
  pub accepted : IsAccepted events
  pub outputs : Text → Option Bytes
  pub live : (id : Text) → is_some (outputs id) ≡ is_some (live_attempt events id)

-- what waits of the others is what waited before
abbrev pub KeepsOthers : Text → Standing → Standing → Type 0
KeepsOthers id old new = (other : Text) → bytes_eq id other ≡ false → new.outputs other ≡ old.outputs other

-- nothing has changed
pub record StaysStanding (old new : Standing) : Type 0 where
  pub events : new.events ≡ old.events
  pub outputs : (id : Text) → new.outputs id ≡ old.outputs id

-- an event was accepted, and what waits is what waited before
pub record Adds (event : Event) (old new : Standing) : Type 0 where
  pub events : new.events ≡ event ∷ old.events
  pub outputs : (id : Text) → new.outputs id ≡ old.outputs id

-- an event was accepted, and of its invocation these bytes wait then
pub record LeavesWaiting (event : Event) (id : Text) (output : Option Bytes) (old new : Standing) : Type 0 where
  pub events : new.events ≡ event ∷ old.events
  pub own : new.outputs id ≡ output
  pub others : KeepsOthers id old new

-- an event was refused, for the least of its causes or for a circumstance, and nothing has changed
pub record Refuses (event : Event) (why : Refusal) (old new : Standing) : Type 0 where
  pub cause : IsRefused (causes_of old.events event) why
  pub stays : StaysStanding old new
