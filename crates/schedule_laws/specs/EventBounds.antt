-- Which events calls can bring: their numbers are within their types, and their texts are UTF-8.
use Rattle.std.specs.Prelude.{◌≡◌, ◌<◌, ◌^◌, List}
use Rattle.std.specs.List.{AllByRecursion}
use Rattle.journal_model.specs.Notification.{Text}
use Rattle.journal_model.specs.Event.{Event, Frame}
use Rattle.journal_model.specs.Journal.{completion}
use Rattle.journal_model.specs.Value.{result_of_value}
use Rattle.vm_request_laws.specs.RequestBounds.{RequestFits}
use Rattle.schedule_model.specs.ArgumentBounds.{InvocationFits, ResultFits, signal_arrival}

-- of a frame that was taken
abbrev pub FrameFits : Frame → Type 0
FrameFits (Frame.Command request) = RequestFits request
FrameFits (Frame.RunOutcome n value is_acknowledged) = ResultFits (completion n (result_of_value value))
FrameFits _ = Unit {0}

-- of an accepted event, if it is one of this invocation
abbrev pub AcceptedFits : Text → Event → Type 0
AcceptedFits id (Event.Invoke new) = new.id ≡ id → InvocationFits new
AcceptedFits id (Event.Result other n value) = other ≡ id → ResultFits (completion n value)
AcceptedFits id (Event.Signal other key value) = other ≡ id → ResultFits (signal_arrival key value)
AcceptedFits id (Event.Begin other now) = other ≡ id → now < 2 ^ 64
AcceptedFits id (Event.Move other attempt frame) = other ≡ id → FrameFits frame
AcceptedFits id _ = Unit {0}

abbrev pub EventsFit : Text → List Event → Type 0
EventsFit id events = AllByRecursion (AcceptedFits id) events
