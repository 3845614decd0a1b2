-- What a call answers that forgets invocations, and what the store stands for then.
use Rattle.std.specs.Prelude.{◌≡◌, List, [], Result, Ok, Err}
use Rattle.journal_model.specs.Notification.{Text}
use Rattle.journal_model.specs.Cause.{those_that_hold}
use Rattle.journal_laws.specs.Forgetting.{without_all}
use Rattle.store_refusals.specs.declared.refusal.Refusal.{Refusal}
use Rattle.store_refusals.specs.RefusalConditions.{IsRefused}
use Rattle.store_refusals.specs.Forgetting.{forget_tests_of_all}
use Rattle.store_calls.specs.AbstractStore.{Standing, StaysStanding}

-- Each of these is known and closed. What is left are the events of the others, the ticks, and what these have made of the states of their
-- objects; and what waits is what waited before.
pub record LeavesOthers (ids : List Text) (old new : Standing) : Type 0 where
  pub closed : those_that_hold (forget_tests_of_all old.events ids) ≡ []
  pub events : new.events ≡ without_all ids old.events
  pub outputs : (id : Text) → new.outputs id ≡ old.outputs id

-- none is forgotten, for the first that is open or not known, or for a circumstance, and nothing has changed
pub record ForgetsNone (ids : List Text) (why : Refusal) (old new : Standing) : Type 0 where
  pub cause : IsRefused (those_that_hold (forget_tests_of_all old.events ids)) why
  pub stays : StaysStanding old new

abbrev pub Forgets : List Text → Result (Unit {0}) Refusal → Standing → Standing → Type 0
Forgets ids (Ok done) old new = LeavesOthers ids old new
Forgets ids (Err why) old new = ForgetsNone ids why old new
