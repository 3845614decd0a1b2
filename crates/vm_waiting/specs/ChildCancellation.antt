-- How a cancellation is passed on: all children are looked at, and one request is put for each.
use Rattle.std.specs.Prelude.{◌≡◌, Bool, List, [], ◌∷◌, ◌++◌, Option, Some, None, Result, Ok, Err}
use Rattle.std.specs.List.{AllByRecursion}
use Rattle.journal_model.specs.Notification.{Text, Arrival}
use Rattle.journal_model.specs.Request.{Request, SignalValue}
use Rattle.journal_model.specs.declared.notification.SignalKey.{SignalKey}
use Rattle.journal_model.specs.declared.value.Value.{Value}
use Rattle.attempt_model.specs.Children.{Child, child_value, ChildrenState, AreIds, IsUnknown, IsNoId, ChildrenOutcome, AllKnown, FirstUnknown, OneIsNoId, children_outcome}
use Rattle.attempt_model.specs.Requests.{PutState, put_all}
use Rattle.attempt_model.specs.Results.{Ready}
use Rattle.protocol_types.specs.declared.message_type.MessageType.TheVariants.{SendSignalCommand}
use Rattle.vm_awaits.specs.Views.{AsyncResults}
use Rattle.vm_commands.specs.HeaderEquality.{header_equal}
use Rattle.vm_context.specs.Journal.{JournalCounts, after_command}
use Rattle.vm_calls.specs.declared.active.Active.{Active}
use Rattle.vm_calls.specs.declared.put_error.PutError.{PutError}
use Rattle.vm_calls.specs.declared.put_error.PutError.TheVariants.{Replay}
use Rattle.vm_commands.specs.declared.replay_error.ReplayError.TheVariants as unmatched
use Rattle.vm_calls.specs.Active.{RequestFits, IsActiveSettled, left_of, asking, writes_frames, PutFails}
use Rattle.vm_calls.specs.MismatchedCommands.{command_place, TellsPut}
use Rattle.vm_waiting.specs.declared.cancelling.CancelError.{CancelError}
use Rattle.vm_waiting.specs.declared.cancelling.CancelError.TheVariants as uncancelled
use Rattle.vm_waiting.specs.declared.children.ChildrenKnown.{ChildrenKnown}
use Rattle.vm_waiting.specs.declared.children.ChildrenKnown.TheVariants as known

-- ---- what is known of the children

abbrev pub state_as : ChildrenKnown → ChildrenState
state_as known.AllIds = AreIds
state_as (known.Unknown completion) = IsUnknown completion
state_as known.NoId = IsNoId

-- what looking came to, with what is left in line and what waits to be taken then
abbrev pub outcome_as : List Arrival → Ready → ChildrenKnown → ChildrenOutcome
outcome_as queue ready known.AllIds = AllKnown queue ready
outcome_as queue ready (known.Unknown completion) = FirstUnknown completion ready
outcome_as queue ready known.NoId = OneIsNoId

-- where one stays unknown nothing is left in line
abbrev pub line_behind : List Arrival → ChildrenKnown → List Arrival
line_behind queue known.AllIds = queue
line_behind queue (known.Unknown completion) = []
line_behind queue known.NoId = queue

-- One notification a step was looked at, until it is known of all children that they have their ids, or of the first that has none that it
-- has something else; or until nothing is left in line.
pub record LooksFor (children : List Child) (old : AsyncResults) (found : ChildrenKnown) (new : AsyncResults) : Type 0 where
  pub outcome : children_outcome old.delivery children old.queue old.ready ≡ outcome_as new.queue new.ready found
  pub queue : new.queue ≡ line_behind new.queue found
  pub delivery : new.delivery ≡ old.delivery
  pub slots : new.slots ≡ old.slots

-- the invocation id in what is known of a child
abbrev pub id_in : Option Value → Option Text
id_in (Some (Value.InvocationId id)) = Some id
id_in _ = None

abbrev pub with_id : Option Text → List Text → List Text
with_id None ids = ids
with_id (Some id) ids = id ∷ ids

-- the invocation ids of the children, in their order
abbrev pub ids_known : Ready → List Child → List Text
ids_known ready [] = []
ids_known ready (child ∷ children) = with_id (id_in (child_value ready child)) (ids_known ready children)

-- ---- the requests

-- the request that cancels an invocation
abbrev pub cancels : Text → Request
cancels id = Request.SendSignal id (SignalKey.ByIndex 1) SignalValue.Empty []

-- a command was asked for by each of these requests
abbrev pub after_cancels : List Request → JournalCounts → JournalCounts
after_cancels [] journal = journal
after_cancels (request ∷ requests) journal = after_cancels requests (after_command SendSignalCommand [] journal)

-- Several requests are put, one behind the other: each is matched with the next recorded command, or written behind the journal.
pub record PutsAll (ignoring : Bool) (requests written : List Request) (old new : Active) : Type 0 where
  pub put : PutState
  pub puts : put_all (header_equal ignoring) requests (record { left = left_of old; written = written }) ≡ Some put
  pub left : left_of new ≡ put.left
  pub settled : IsActiveSettled new
  pub more : List Request
  pub wrote : put.written ≡ written ++ more
  -- what is written fits its frames
  pub fit : AllByRecursion RequestFits more
  pub frames : new.output ≡ writes_frames more old.output
  pub others : new ≡ record old { is_replaying = new.is_replaying; commands = new.commands; journal = after_cancels requests old.journal; output = new.output }

-- the first of these requests were put, and the next was not
pub record StopsAt (ignoring : Bool) (requests written : List Request) (old : Active) : Type 0 where
  pub front : List Request
  pub next : Request
  pub behind : List Request
  pub parts : requests ≡ front ++ next ∷ behind
  pub put : Active
  pub puts : PutsAll ignoring front written old put

-- the next is not put, since it is not what is recorded next, is too long, or memory was refused: nothing is written of it
pub record FailsPutting {M : Type 0} (ignoring : Bool) (requests written : List Request) (old : Active) (error : PutError M) (new : Active) : Type 0 where
  pub stops : StopsAt ignoring requests written old
  pub fails : PutFails ignoring stops.next stops.puts.put.written stops.put error
  pub output : new.output ≡ stops.put.output
  pub journal : new.journal ≡ (asking SendSignalCommand [] stops.put).journal
  -- the error tells of what is recorded next why it is not the request
  pub found : TellsPut SendSignalCommand (command_place new.journal) stops.put.commands.items error

-- memory was refused when the next was asked for
pub record LacksCommand (ignoring : Bool) (requests written : List Request) (old new : Active) : Type 0 where
  pub stops : StopsAt ignoring requests written old
  pub asked : new ≡ asking SendSignalCommand [] stops.put

-- all are put, or the first of them
abbrev pub PutsEach : (ignoring : Bool) → (requests written : List Request) → (old : Active) → Result (Unit {0}) CancelError → (new : Active) → Type 0
PutsEach ignoring requests written old (Ok done) new = PutsAll ignoring requests written old new
PutsEach ignoring requests written old (Err (uncancelled.Put error)) new = FailsPutting ignoring requests written old error new
PutsEach ignoring requests written old (Err uncancelled.OutOfMemory) new = LacksCommand ignoring requests written old new

-- where nothing recorded is left although it still replays, no request is put: the entry of the first is not there
abbrev pub PutsNone : (requests : List Request) → (old : Active) → Result (Unit {0}) CancelError → (new : Active) → Type 0
PutsNone requests old (Ok done) new = (requests ≡ []) × (new ≡ old)
PutsNone requests old (Err (uncancelled.Put (Replay (unmatched.Unavailable error)))) new = new.output ≡ old.output
PutsNone requests old (Err (uncancelled.Put _)) new = ⊥
PutsNone requests old (Err uncancelled.OutOfMemory) new = new.output ≡ old.output
