-- What has to be kept of an invocation, so that the headline and the waking clauses hold of it whatever comes.
use Rattle.std.specs.Prelude.{◌≡◌, List, Some, None}
use Rattle.journal_model.specs.Notification.{Text}
use Rattle.journal_model.specs.Event.{Suspension, Event}
use Rattle.journal_model.specs.Journal.{recorded_requests, recorded_arrivals, recorded_answer, Closing, closing_of}
use Rattle.journal_model.specs.Attempt.{live_attempt, suspension_of}
use Rattle.journal_model.specs.Run.{Handler, Invocation, BeginsRun}
use Rattle.journal_model.specs.Headline.{IsWholeAlong, IsRunAnswer, arrivals_handed}
use Rattle.run_laws.specs.SuspensionContent.{WaitsAll}

-- a suspended attempt is over, and the run waits over what it was handed for what its suspension tells
pub record StillWaits (next : Handler) (given : Invocation) (id : Text) (events : List Event) (suspension : Suspension) : Type 0 where
  pub over : live_attempt events id ≡ None
  pub waits : WaitsAll next given (arrivals_handed events id) (recorded_requests events id) (Some suspension)

-- what holds of an invocation in every run: its recorded requests begin the run over its recorded arrivals, at each suspension and at
-- the end all of it was recorded, its answer is that of the run, and what its last attempt is suspended on is what the run waits for
pub record Holds (next : Handler) (given : Invocation) (id : Text) (events : List Event) : Type 0 where
  pub begins : BeginsRun next given (recorded_arrivals events id) (recorded_requests events id)
  pub whole : IsWholeAlong next given id events
  pub answered : closing_of events id ≡ Some Closing.ByEnd → IsRunAnswer next given (recorded_arrivals events id) (recorded_answer events id)
  pub waits : (suspension : Suspension) → suspension_of events id ≡ Some suspension → StillWaits next given id events suspension
