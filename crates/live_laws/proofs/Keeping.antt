-- A schedule whose attempts write frames of the run alone keeps the invocation in its run.
use Rattle.std.proofs.Common.{◌≡◌, List, [], ◌∷◌}
use Rattle.journal_model.specs.Notification.{Text}
use Rattle.journal_model.specs.Run.{Handler, Invocation}
use Rattle.journal_model.specs.Event.{Event, Frame}
use Rattle.journal_model.specs.Journal.{recorded_requests}
use Rattle.journal_model.specs.Attempt.{is_input_closed}
use Rattle.journal_model.specs.Cause.{causes_of}
use Rattle.journal_model.specs.Headline.{arrivals_handed}
use Rattle.live_laws.specs.RequestsInFlight.{FollowsSo, PassesOn, ScheduleOfRun, starts, accepts, writes}
use Rattle.live_laws.proofs.RequestsInFlight.{sends-append, none_flies, flies_step, takes_step}
use Rattle.run_laws.proofs.Holding.{holds_step}

module _ (next : Handler) (given : Invocation) (id : Text) where
  pub one_event : (event : Event) (events : List Event) (coming left : List Frame) → causes_of events event ≡ [] → PassesOn id event coming left
      → FollowsSo next given id events coming → FollowsSo next given id (event ∷ events) left
  one_event event events coming left causes passes f = record {
    accepted = (causes, f.accepted);
    holds = holds_step next given id event events (causes, f.accepted) (takes_step next given id event events coming left causes passes f.flies) f.holds;
    flies = flies_step next given id event events coming left (causes, f.accepted) passes f.flies;
  }

  -- a schedule keeps an invocation in its run
  pub all_events : {events : List Event} {coming : List Frame} → ScheduleOfRun next given id events coming → FollowsSo next given id events coming
  all_events (starts {events = events} accepted holds none) = record { accepted = accepted; holds = holds; flies = none_flies next given id events [] none }
  all_events (accepts {events = events} {coming = coming} {left = left} event before causes passes) =
      one_event event events coming left causes passes (all_events before)
  all_events (writes {events = events} {coming = coming} written before sends) =
      let f = all_events before in record {
        accepted = f.accepted;
        holds = f.holds;
        flies = λ attempt live.
            sends-append next given (arrivals_handed events id) (is_input_closed events id) (recorded_requests events id) coming written (f.flies attempt live) (sends attempt live);
      }
