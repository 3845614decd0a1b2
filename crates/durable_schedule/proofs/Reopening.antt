-- The stops that a store puts in front of its events when it is opened change nothing of what is recorded.
use Rattle.std.proofs.Common.{ℕ, List, [], ◌∷◌, ◌++◌, filter_map, Option, Some, None}
use Rattle.journal_model.specs.Notification.{Text}
use Rattle.journal_model.specs.declared.invocation.NewInvocation.{NewInvocation}
use Rattle.journal_model.specs.Event.{Event}
use Rattle.journal_model.specs.Journal.{invoked_by}
use Rattle.journal_model.specs.Attempt.{live_attempt}
use Rattle.journal_model.specs.Cause.{IsAccepted, stop_of, stops_of}
use Rattle.journal_model.specs.Run.{Handler}
use Rattle.vm_types.specs.declared.options.VMOptions.{VMOptions}
use Rattle.run_laws.specs.HeadlineLaws.{HoldsOn}
use Rattle.schedule_laws.specs.InvocationInRun.{HoldsOf, given_of}
use Rattle.durable_schedule.specs.Runs.{ReopenedHold}

module _ (on : HoldsOn) (next : Handler) (options : VMOptions) (id : Text) where
  stop_holds : (other : Text) (n : ℕ) (events : List Event) → IsAccepted (Event.Stop other n ∷ events) → HoldsOf next options id events
      → HoldsOf next options id (Event.Stop other n ∷ events)
  stop_holds other n events accepted holds new begun =
      let it = holds new begun in
      record { fit = (tt, it.fit); holds = on next (given_of options id events new) id (Event.Stop other n) events accepted tt it.holds; unfailed = (tt, it.unfailed) }

  -- the stop of one invocation's attempt, if one is live, and those of the invocations behind it
  one_more : (o : Option ℕ) (other : Text) (stops events : List Event) → (IsAccepted (stops ++ events) → HoldsOf next options id (stops ++ events))
      → IsAccepted ((stop_of other o ++ stops) ++ events) → HoldsOf next options id ((stop_of other o ++ stops) ++ events)
  one_more None other stops events holds accepted = holds accepted
  one_more (Some n) other stops events holds accepted = stop_holds other n (stops ++ events) accepted (holds accepted.1)

  stops_hold : (events : List Event) (news : List NewInvocation) → HoldsOf next options id events → IsAccepted (stops_of events news ++ events)
      → HoldsOf next options id (stops_of events news ++ events)
  stops_hold events [] holds accepted = holds
  stops_hold events (new ∷ more) holds accepted =
      one_more (live_attempt events new.id) new.id (stops_of events more) events (stops_hold events more holds) accepted

pub reopened_hold : HoldsOn → ReopenedHold
reopened_hold on next options id events accepted holds = stops_hold on next options id events (filter_map invoked_by events) holds accepted
