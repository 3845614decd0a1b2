-- What a turn sends, by what its call came to.
use Rattle.std.specs.Prelude.{◌≡◌, ◌⊎◌, ℕ, suc, Bool, true, false, List, [], ◌∷◌, ◌++◌, map, Option, Some, None}
use Rattle.std.specs.List.{AllByRecursion}
use Rattle.journal_model.specs.declared.notification.NotificationId.{NotificationId}
use Rattle.journal_model.specs.declared.notification.NotificationId.TheVariants.{CompletionId}
use Rattle.journal_model.specs.AwaitTree.{AwaitTree, Single, map_leaves}
use Rattle.journal_model.specs.Request.{Request}
use Rattle.journal_model.specs.Run.{Handler, Invocation}
use Rattle.journal_model.specs.Event.{Suspension, ForTree, Frame}
use Rattle.run_laws.specs.SuspensionContent.{TellsAwaitedTree}
use Rattle.input_laws.specs.Message.{InputMessage}
use Rattle.live_laws.specs.RequestsInFlight.{requests_sent}
use Rattle.live_laws.specs.TurnWrites.{IsNote}
use Rattle.attempt_model.specs.Machine.{Machine, Reply, Answered, AwaitsTree, AwaitsChild, Finished, FailedBy}
use Rattle.attempt_model.specs.Results.{slot_of}
use Rattle.live_laws.specs.MachinePosition.{IsInRun}

-- where this is waited for: nothing, or a frame that tells it, while the input is open; and a suspension that tells it where the input is closed
abbrev pub SendsWaiting : ℕ → (is_closed : Bool) → AwaitTree (Option NotificationId) → List Frame → Type 0
SendsWaiting version false tree sent = (sent ≡ []) ⊎ ((awaited : AwaitTree NotificationId) × (sent ≡ Frame.AwaitingOn (Some awaited) ∷ []) × TellsAwaitedTree version tree (Some (ForTree awaited)))
SendsWaiting version true tree sent = (suspension : Suspension) × (sent ≡ Frame.Suspend (Some suspension) ∷ []) × TellsAwaitedTree version tree (Some suspension)

-- a turn of a machine sends the requests that the reply has written behind those before; where it waits it tells so, where it has finished it
-- ends, and where it fails it says nothing of requests
abbrev pub SendsReply : ℕ → (is_closed : Bool) → Machine → Reply → List Frame → Type 0
SendsReply version is_closed m (Answered answer after) sent = (written : List Request) × (after.written ≡ m.written ++ written) × (sent ≡ map Frame.Command written)
SendsReply version is_closed m (AwaitsTree tree after) sent = SendsWaiting version is_closed (map_leaves (slot_of after.slots) tree) sent
SendsReply version is_closed m (AwaitsChild child after) sent = SendsWaiting version is_closed (Single (Some (CompletionId child))) sent
SendsReply version is_closed m (Finished after) sent = sent ≡ Frame.End ∷ []
SendsReply version is_closed m (FailedBy fault) sent = AllByRecursion IsNote sent

-- where the attempt goes on behind a reply: its machine, and the calls that were answered, one more behind an answer
abbrev pub goes_on : ℕ → Reply → Option (ℕ × Machine)
goes_on calls (Answered answer after) = Some (suc calls, after)
goes_on calls (AwaitsTree tree after) = Some (calls, after)
goes_on calls (AwaitsChild child after) = Some (calls, after)
goes_on calls (Finished after) = None
goes_on calls (FailedBy fault) = None

-- a machine that stands in the run behind a turn, and has written what was sent
pub record StandsBehind (next : Handler) (given : Invocation) (read unread : List InputMessage) (calls : ℕ) (before after : Machine) (sent : List Frame) : Type 0 where
  pub stands : IsInRun next given read unread calls after
  pub written : after.written ≡ before.written ++ requests_sent sent
