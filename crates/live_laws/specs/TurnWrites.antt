-- What each turn of an attempt may write.
use Rattle.std.specs.Prelude.{◌≡◌, ◌⊎◌, ℕ, Bool, true, List, [], ◌∷◌, ◌++◌, map, Option, Some}
use Rattle.std.specs.List.{AllByRecursion}
use Rattle.journal_model.specs.declared.notification.NotificationId.{NotificationId}
use Rattle.journal_model.specs.Notification.{Arrival}
use Rattle.journal_model.specs.AwaitTree.{AwaitTree}
use Rattle.journal_model.specs.Request.{Request}
use Rattle.journal_model.specs.Run.{Handler, Invocation, Ended, BeginsRun}
use Rattle.journal_model.specs.Event.{Suspension, ForTree, Frame}
use Rattle.journal_model.specs.Headline.{IsWholeRun}
use Rattle.run_laws.specs.Position.{IsAtCall}
use Rattle.run_laws.specs.SuspensionContent.{WaitsAll}

-- a frame that says nothing of requests
abbrev pub IsNote : Frame → Type 0
IsNote (Frame.RunOutcome completion value is_acknowledged) = Unit {0}
IsNote (Frame.Error code message behavior delay) = Unit {0}
IsNote _ = ⊥

-- what a turn may write, behind what was asked so far, when it has read these arrivals, and its input was closed or not:
-- the requests of the next call where none is left to be replayed, or a beginning of them where it fails; where the run
-- waits with all that was asked, what it waits for, or its suspension if its input was closed; the end where the run has ended with it
pub data WritesOfRun (next : Handler) (given : Invocation) (arrivals : List Arrival) (is_closed : Bool) (asked : List Request) : List Frame → Type 0 where
  nothing : WritesOfRun next given arrivals is_closed asked []
  answers : (written left : List Request) (calls : ℕ) → IsAtCall next given arrivals (asked ++ written) calls left → (left ≡ []) ⊎ (written ≡ [])
      → WritesOfRun next given arrivals is_closed asked (map Frame.Command written)
  notes : (frames : List Frame) → AllByRecursion IsNote frames → WritesOfRun next given arrivals is_closed asked frames
  fails : (written : List Request) (frames : List Frame) → BeginsRun next given arrivals (asked ++ written) → AllByRecursion IsNote frames
      → WritesOfRun next given arrivals is_closed asked (map Frame.Command written ++ frames)
  awaits : (awaited : AwaitTree NotificationId) → WaitsAll next given arrivals asked (Some (ForTree awaited))
      → WritesOfRun next given arrivals is_closed asked (Frame.AwaitingOn (Some awaited) ∷ [])
  suspends : (suspension : Option Suspension) → is_closed ≡ true → WaitsAll next given arrivals asked suspension
      → WritesOfRun next given arrivals is_closed asked (Frame.Suspend suspension ∷ [])
  ends : IsWholeRun next given arrivals asked (λ ending. ending ≡ Ended) → WritesOfRun next given arrivals is_closed asked (Frame.End ∷ [])
