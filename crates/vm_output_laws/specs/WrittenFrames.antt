-- What is written is what is sent, and what a turn sends.
use Rattle.std.specs.Prelude.{◌≡◌, ◌<◌, ◌^◌, ℕ, true, false, List, [], ◌∷◌, ◌++◌, map, Ok}
use Rattle.protocol_types.specs.declared.message_type.MessageType.TheVariants as types
use Rattle.journal_model.specs.declared.notification.NotificationId.{NotificationId}
use Rattle.journal_model.specs.declared.value.NonEmptyValue.{NonEmptyValue}
use Rattle.journal_model.specs.AwaitTree.{AwaitTree}
use Rattle.journal_model.specs.Request.{Request}
use Rattle.protocol_errors.specs.declared.error.Error.{Error}
use Rattle.vm_context.specs.Output.{Written}
use Rattle.vm_calls.specs.declared.active.Active.{Active}
use Rattle.vm_calls.specs.Active.{writes_frames}
use Rattle.vm_waiting.specs.SuspensionFrames.{is_suspension_too_deep, WritesFrame, IsSuspended, TellsIf}
use Rattle.vm_start.specs.Failure.{told_error}
use Rattle.vm_start.specs.FailureReport as failing
use Rattle.vm_proposals.specs.ProposalEffects.{proposal, WritesProposal}
use Rattle.vm_request_laws.specs.Calls.{IsTypedValue}
use Rattle.protocol_types.specs.Version.{version_number}
use Rattle.vm_request_laws.specs.Trees.{IsSpoken, LeavesFit}
use Rattle.vm_output_laws.specs.SentFrames.{Sent, Asks, Proposes, Awaits, Suspends, Fails, Ends, sent_stream, SentFits}

-- these frames are behind what was written, and no other
pub record Sends (coming : List Sent) (old new : Written) : Type 0 where
  pub version : new.version ≡ old.version
  pub bytes : new.bytes ≡ old.bytes ++ sent_stream old.version coming

-- one frame is, which fits
pub record SendsOne (sent : Sent) (old new : Written) : Type 0 where
  pub fits : SentFits old.version sent
  pub sends : Sends (sent ∷ []) old new

abbrev pub CommandsAreWritten : Type 0
CommandsAreWritten = (requests : List Request) (old : Written) → Sends (map Asks requests) old (writes_frames requests old)

-- of an outcome whose completion and texts are as their types say
abbrev pub ProposalsAreWritten : Type 0
ProposalsAreWritten = (n : ℕ) (value : NonEmptyValue) (done : Unit {0}) (old new : Written) → old.is_closed ≡ false → n < 2 ^ 32 → IsTypedValue value
    → WritesProposal (proposal n value) old (Ok done) new → SendsOne (Proposes n value) old new

abbrev pub AwaitsAreWritten : Type 0
AwaitsAreWritten = (ids : AwaitTree NotificationId) (done : Unit {0}) (old new : Active) → old.output.is_closed ≡ false → LeavesFit ids → IsSpoken (version_number old.output.version) ids → TellsIf true ids old (Ok done) new
    → SendsOne (Awaits ids) old.output new.output

abbrev pub SuspensionsAreWritten : Type 0
SuspensionsAreWritten = (ids : AwaitTree NotificationId) (old new : Active) → old.output.is_closed ≡ false → LeavesFit ids → IsSpoken (version_number old.output.version) ids → is_suspension_too_deep old.output.version ids ≡ false → IsSuspended ids old new
    → SendsOne (Suspends ids) old.output new.output

abbrev pub ErrorsAreWritten : Type 0
ErrorsAreWritten = (error : Error) (old new : Written) → old.is_closed ≡ false → failing.WritesError error old new → SendsOne (Fails (told_error error)) old new

abbrev pub EndsAreWritten : Type 0
EndsAreWritten = (done : Unit {0}) (old new : Written) → old.is_closed ≡ false → WritesFrame types.End [] old (Ok done) new → SendsOne Ends old new

-- what each relation of a machine's calls writes, while frames can be written, is such a frame
pub record FramesAreWritten : Type 0 where
  pub commands : CommandsAreWritten
  pub proposals : ProposalsAreWritten
  pub awaits : AwaitsAreWritten
  pub suspensions : SuspensionsAreWritten
  pub errors : ErrorsAreWritten
  pub ends : EndsAreWritten
