-- What is noted of others once invocations are forgotten.
use Rattle.std.specs.Prelude.{◌≡◌, false, List}
use Rattle.journal_model.specs.Notification.{Text}
use Rattle.journal_model.specs.Event.{Event}
use Rattle.journal_laws.specs.Forgetting.{is_among, without_all}
use Rattle.due_laws.specs.AwakeNotes.{noted_of}
use Rattle.due_laws.specs.Rows.{arrivals_known, frames_known, outcomes_noted}

-- the same is noted of an invocation behind two lists of events, and its last attempt knows the same of its input
pub record KnownAlike (events others : List Event) (id : Text) : Type 0 where
  pub noted : noted_of events id ≡ noted_of others id
  pub frames : frames_known events id ≡ frames_known others id
  pub arrivals : arrivals_known events id ≡ arrivals_known others id
  pub outcomes : outcomes_noted events id ≡ outcomes_noted others id

-- so it is of each that is not forgotten
abbrev pub OthersStayKnown : Type 0
OthersStayKnown = (events : List Event) (ids : List Text) (other : Text) → is_among ids other ≡ false → KnownAlike (without_all ids events) events other
