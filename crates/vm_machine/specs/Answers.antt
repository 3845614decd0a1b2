-- What is kept of the answers of ephemeral reads that come.
use Rattle.std.specs.Prelude.{◌≡◌, ◌≢◌, pos, Bool, true, false, Some, None, Result, Ok, Err}
use Rattle.journal_model.specs.declared.value.Value.{Value}
use Rattle.protocol_controls.specs.GetStateEphemeralNotification.{get_state_ephemeral_notification_of}
use Rattle.protocol_controls.specs.declared.get_state_ephemeral_notification.GetStateEphemeralNotificationMessage.{GetStateEphemeralNotificationMessage}
use Rattle.protocol_controls.specs.declared.get_state_ephemeral_notification.GetStateEphemeralNotificationResult.{GetStateEphemeralNotificationResult}
use Rattle.protocol_controls.specs.declared.get_state_ephemeral_notification.GetStateEphemeralNotificationResult.TheVariants as brought
use Rattle.protocol_errors.specs.declared.fixed.FixedError.{FixedError}
use Rattle.protocol_errors.specs.declared.fixed.FixedError.TheVariants as fixed
use Rattle.protocol_messages.specs.Decodings.{DecodesTo}
use Rattle.protocol_stream.specs.declared.decoder.DecodingError.TheVariants as unread
use Rattle.protocol_stream.specs.declared.decoder.RawMessage.{RawMessage}
use Rattle.protocol_table.specs.declared.table.RecordType.TheVariants as records
use Rattle.vm_types.specs.Reads.{EphemeralReads, after_answer}
use Rattle.vm_types.specs.declared.handles.EphemeralCompletionId.{EphemeralCompletionId}
use Rattle.vm_machine.specs.declared.entry_error.EntryError.{EntryError}
use Rattle.vm_machine.specs.declared.entry_error.EntryError.TheVariants.{Fixed, Unexpected, Decoding, OutOfMemory}
use Rattle.vm_machine.specs.declared.incoming.Incoming.TheVariants as incoming
use Rattle.vm_machine.specs.declared.answers.Stage.{Stage}
use Rattle.vm_machine.specs.declared.answers.Stage.TheVariants as stages
use Rattle.vm_start.specs.declared.phase.Phase.{Phase}
use Rattle.vm_start.specs.declared.phase.Phase.TheVariants as phases

-- what an answer hands out
abbrev pub value_told : GetStateEphemeralNotificationResult → Value
value_told (brought.Void empty) = Value.Void
value_told (brought.Value value) = Value.Success value.content

-- the message answers this read by this
pub record TellsAnswer (message : RawMessage) (id : EphemeralCompletionId) (value : Value) : Type 0 where
  pub whole : GetStateEphemeralNotificationMessage
  pub decoded : DecodesTo records.GetStateEphemeralNotification get_state_ephemeral_notification_of (pos 0) message (Ok whole)
  pub id_is : id.number ≡ whole.ephemeral_completion_id
  pub brought : GetStateEphemeralNotificationResult
  pub result : whole.result ≡ Some brought
  pub value_is : value ≡ value_told brought

-- the message brings nothing
pub record IsEmpty (message : RawMessage) (error : FixedError) : Type 0 where
  pub whole : GetStateEphemeralNotificationMessage
  pub decoded : DecodesTo records.GetStateEphemeralNotification get_state_ephemeral_notification_of (pos 0) message (Ok whole)
  pub result : whole.result ≡ None
  pub error_is : error ≡ fixed.EmptyGetStateEphemeralNotification

abbrev pub AnswersRead : RawMessage → Result (EphemeralCompletionId × Value) EntryError → Type 0
AnswersRead message (Ok (id, value)) = TellsAnswer message id value
AnswersRead message (Err (Fixed error)) = IsEmpty message error
AnswersRead message (Err (Decoding error)) = DecodesTo {R = GetStateEphemeralNotificationMessage} records.GetStateEphemeralNotification get_state_ephemeral_notification_of (pos 0) message (Err error) × (error ≢ unread.OutOfMemory)
AnswersRead message (Err OutOfMemory) = Unit {0}
AnswersRead message (Err _) = ⊥

-- the answer of a read has come
pub record Completed (message : RawMessage) (old new : EphemeralReads) : Type 0 where
  pub id : EphemeralCompletionId
  pub value : Value
  pub tells : TellsAnswer message id value
  pub completed : new ≡ after_answer id.number value old

abbrev pub CompletesRead : RawMessage → (old : EphemeralReads) → Result (Unit {0}) EntryError → (new : EphemeralReads) → Type 0
CompletesRead message old (Ok done) new = Completed message old new
CompletesRead message old (Err error) new = AnswersRead message (Err error) × (new ≡ old)

-- ---- where a machine stands

abbrev pub active_stage : Bool → Stage
active_stage true = stages.Before
active_stage false = stages.Processing

abbrev pub stage_of : Phase → (is_replaying : Bool) → Stage
stage_of phases.WaitingStart is_replaying = stages.Before
stage_of (phases.WaitingReplayEntries left) is_replaying = stages.Before
stage_of phases.Active is_replaying = active_stage is_replaying
stage_of phases.Closed is_replaying = stages.Behind
stage_of (phases.Failed error) is_replaying = stages.Before

-- The answer of an ephemeral read, which comes while commands are made alone; behind the end it is ignored.
abbrev pub ComesAnswer : RawMessage → Stage → (old : EphemeralReads) → Result (Unit {0}) EntryError → (new : EphemeralReads) → Type 0
ComesAnswer message stages.Processing old result new = CompletesRead message old result new
ComesAnswer message stages.Before old result new = (result ≡ Err (Unexpected incoming.EphemeralAnswer)) × (new ≡ old)
ComesAnswer message stages.Behind old result new = (result ≡ Ok tt) × (new ≡ old)
