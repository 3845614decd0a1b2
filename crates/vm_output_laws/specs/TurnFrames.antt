-- What one turn sends is a list of such frames: by the relation of the call that it made, what the abstract machine's reply sends; or the
-- outcome of a run that it has executed.
use Rattle.std.specs.Prelude.{◌≡◌, ◌<◌, ◌^◌, ℕ, Bool, true, false, List, [], ◌∷◌, ◌++◌, map, Option, Some, Ok}
use Rattle.std.specs.List.{AllByRecursion}
use Rattle.protocol_types.specs.declared.message_type.MessageType.TheVariants as types
use Rattle.protocol_types.specs.declared.feature.Feature.TheVariants.{Acknowledgement}
use Rattle.protocol_types.specs.Feature.{has_feature}
use Rattle.protocol_types.specs.Version.{version_number}
use Rattle.journal_model.specs.declared.notification.NotificationId.{NotificationId}
use Rattle.journal_model.specs.declared.notification.NotificationId.TheVariants.{CompletionId}
use Rattle.journal_model.specs.declared.value.NonEmptyValue.{NonEmptyValue}
use Rattle.journal_model.specs.declared.call.Answer.{Answer}
use Rattle.journal_model.specs.AwaitTree.{AwaitTree, Single, Pending, is_awake, map_leaves}
use Rattle.journal_model.specs.Event.{Frame}
use Rattle.journal_model.specs.Future.{tree_of}
use Rattle.journal_model.specs.Request.{Request}
use Rattle.attempt_model.specs.Results.{Slots, slot_of}
use Rattle.attempt_model.specs.Machine.{Machine, Reply, Answered, Finished, FailedBy, Fault}
use Rattle.live_laws.specs.Replies.{SendsReply}
use Rattle.vm_awaits.specs.Views.{slots_of}
use Rattle.vm_context.specs.Output.{Written}
use Rattle.vm_calls.specs.declared.active.Active.{Active}
use Rattle.vm_calls.specs.Active.{writes_frames}
use Rattle.vm_waiting.specs.SuspensionFrames.{is_suspension_too_deep, WritesFrame, IsSuspended, TellsIf}
use Rattle.vm_waiting.specs.WaitsFor.{awaited_ids, waits_as}
use Rattle.vm_waiting.specs.declared.waits_for.WaitsFor.{WaitsFor}
use Rattle.vm_waiting.specs.declared.waits_for.WaitsFor.TheVariants.{Future, Child}
use Rattle.vm_start.specs.FailureReport as failing
use Rattle.protocol_errors.specs.declared.error.Error.{Error}
use Rattle.vm_proposals.specs.ProposalEffects.{proposal, WritesProposal}
use Rattle.vm_request_laws.specs.Calls.{IsTypedValue}
use Rattle.vm_request_laws.specs.RequestBounds.{RequestFits}
use Rattle.vm_request_laws.specs.Trees.{IsSpoken, LeavesFit}
use Rattle.vm_output_laws.specs.SentFrames.{Sent, Asks, Proposes, AllFit, is_recorded, frame_meant}
use Rattle.vm_output_laws.specs.WrittenFrames.{Sends}

-- frames that fit are behind what was written, and the frames that they are meant as are what such a reply sends
pub record TurnSends (is_closed : Bool) (m : Machine) (reply : Reply) (old new : Written) : Type 0 where
  pub coming : List Sent
  pub fit : AllFit old.version coming
  pub written : Sends coming old new
  pub sends : SendsReply (version_number old.version) is_closed m reply (map (frame_meant old.version) coming)

-- a call that was answered, whose requests fit and are such as a store records: a call's own, or those by which an await passes a cancellation on
abbrev pub AnswersSend : Type 0
AnswersSend = (is_closed : Bool) (m after : Machine) (answer : Answer) (more : List Request) (old new : Written) → after.written ≡ m.written ++ more → new ≡ writes_frames more old
    → AllByRecursion RequestFits more → AllByRecursion (λ request. is_recorded request ≡ true) more → TurnSends is_closed m (Answered answer after) old new

-- what the run waits for there, of which a handle that stands for nothing is a leaf too
abbrev pub leaves_over : Slots → WaitsFor → AwaitTree (Option NotificationId)
leaves_over slots (Future left) = map_leaves (slot_of slots) (tree_of left)
leaves_over slots (Child completion) = Single (Some (CompletionId completion))

-- an await that stays, which may be told or not
abbrev pub StaysSend : Type 0
StaysSend = (told : Bool) (done : Unit {0}) (m after : Machine) (waits : WaitsFor) (old new : Active) → old.output.is_closed ≡ false → slots_of old.results ≡ after.slots → LeavesFit (awaited_ids old waits) → IsSpoken (version_number old.output.version) (awaited_ids old waits)
    → TellsIf told (awaited_ids old waits) old (Ok done) new → TurnSends false m (waits_as waits after) old.output new.output

-- an await that is suspended, for what the machine's reply waits for; a child alone is not awake by itself
abbrev pub SuspensionsSend : Type 0
SuspensionsSend = (m after : Machine) (waits : WaitsFor) (old new : Active) → old.output.is_closed ≡ false → slots_of old.results ≡ after.slots → LeavesFit (awaited_ids old waits) → IsSpoken (version_number old.output.version) (awaited_ids old waits)
    → is_awake (leaves_over after.slots waits) (λ leaf. Pending) ≡ false → is_suspension_too_deep old.output.version (awaited_ids old waits) ≡ false → IsSuspended (awaited_ids old waits) old new
    → TurnSends true m (waits_as waits after) old.output new.output

abbrev pub EndsSend : Type 0
EndsSend = (is_closed : Bool) (done : Unit {0}) (m after : Machine) (old new : Written) → old.is_closed ≡ false → WritesFrame types.End [] old (Ok done) new → TurnSends is_closed m (Finished after) old new

abbrev pub FailuresSend : Type 0
FailuresSend = (is_closed : Bool) (m : Machine) (fault : Fault) (error : Error) (old new : Written) → old.is_closed ≡ false → failing.WritesError error old new → TurnSends is_closed m (FailedBy fault) old new

-- a turn that has executed the body of a run: it proposes the outcome for the run's completion, and asks for an acknowledgement from the
-- version on that has them
pub record ProposalSends (n : ℕ) (value : NonEmptyValue) (old new : Written) : Type 0 where
  pub fit : AllFit old.version (Proposes n value ∷ [])
  pub written : Sends (Proposes n value ∷ []) old new
  pub meant : map (frame_meant old.version) (Proposes n value ∷ []) ≡ Frame.RunOutcome n value (has_feature (version_number old.version) Acknowledgement) ∷ []

abbrev pub ProposalsSend : Type 0
ProposalsSend = (n : ℕ) (value : NonEmptyValue) (done : Unit {0}) (old new : Written) → old.is_closed ≡ false → n < 2 ^ 32 → IsTypedValue value
    → WritesProposal (proposal n value) old (Ok done) new → ProposalSends n value old new

-- a call that was stopped midway: its requests that were written by then, and behind them what is sent then, which is its error or nothing
pub record StopSends (more : List Request) (behind : List Sent) (old new : Written) : Type 0 where
  pub fit : AllFit old.version (map Asks more ++ behind)
  pub written : Sends (map Asks more ++ behind) old new
  pub meant : map (frame_meant old.version) (map Asks more ++ behind) ≡ map Frame.Command more ++ map (frame_meant old.version) behind

abbrev pub StopsSend : Type 0
StopsSend = (more : List Request) (behind : List Sent) (old new : Written) → AllByRecursion RequestFits more → AllByRecursion (λ request. is_recorded request ≡ true) more
    → AllFit old.version behind → Sends behind (writes_frames more old) new → StopSends more behind old new

pub record TurnsSend : Type 0 where
  pub answers : AnswersSend
  pub proposals : ProposalsSend
  pub stays : StaysSend
  pub suspensions : SuspensionsSend
  pub ends : EndsSend
  pub failures : FailuresSend
  pub stops : StopsSend
