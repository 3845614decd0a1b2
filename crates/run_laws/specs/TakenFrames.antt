-- What the store may take of the attempts of an invocation: each frame as the run over what was handed out by then has it.
use Rattle.std.specs.Prelude.{◌≡◌, List, [], ◌∷◌, ◌++◌}
use Rattle.journal_model.specs.Notification.{Text, Arrival}
use Rattle.journal_model.specs.Request.{Request}
use Rattle.journal_model.specs.Run.{Handler, Invocation, Ended, BeginsRun}
use Rattle.journal_model.specs.Event.{Event, Frame}
use Rattle.journal_model.specs.Journal.{recorded_requests}
use Rattle.journal_model.specs.Headline.{IsWholeRun, arrivals_handed}
use Rattle.run_laws.specs.SuspensionContent.{WaitsAll}

-- what a frame has to be that is taken after these requests, of an attempt that was handed these arrivals
abbrev pub IsOfRun : Handler → Invocation → List Arrival → List Request → Frame → Type 0
IsOfRun next given arrivals requests (Frame.Command request) = BeginsRun next given arrivals (requests ++ request ∷ [])
IsOfRun next given arrivals requests (Frame.Suspend suspension) = WaitsAll next given arrivals requests suspension
IsOfRun next given arrivals requests Frame.End = IsWholeRun next given arrivals requests (λ ending. ending ≡ Ended)
IsOfRun next given arrivals requests _ = Unit {0}

-- an event that takes a frame of the invocation takes one of its run
abbrev pub TakesOfRun : Handler → Invocation → Text → List Event → Event → Type 0
TakesOfRun next given id earlier (Event.Move invocation attempt frame) =
    invocation ≡ id → IsOfRun next given (arrivals_handed earlier id) (recorded_requests earlier id) frame
TakesOfRun next given id earlier _ = Unit {0}

-- all frames that were taken of the invocation are of its run
abbrev pub AllOfRun : Handler → Invocation → Text → List Event → Type 0
AllOfRun next given id [] = Unit {0}
AllOfRun next given id (event ∷ earlier) = TakesOfRun next given id earlier event × AllOfRun next given id earlier
