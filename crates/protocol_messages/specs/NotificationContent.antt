-- What a notification's record tells.
use Rattle.std.specs.Prelude.{◌≡◌, Bool, true, false, Option, Some, None, Result, Ok, Err}
use Rattle.journal_model.specs.declared.notification.Notification.{Notification}
use Rattle.journal_model.specs.declared.notification.NotificationId.{NotificationId}
use Rattle.journal_model.specs.declared.notification.NotificationId.TheVariants as ids
use Rattle.journal_model.specs.declared.notification.NotificationResult.{NotificationResult}
use Rattle.journal_model.specs.declared.notification.NotificationResult.TheVariants as results
use Rattle.protocol_controls.specs.declared.notification.NotificationMessage.{NotificationMessage}
use Rattle.protocol_controls.specs.declared.notification.NotificationMessageId.{NotificationMessageId}
use Rattle.protocol_controls.specs.declared.notification.NotificationMessageId.TheVariants as record_ids
use Rattle.protocol_controls.specs.declared.notification.NotificationMessageResult.{NotificationMessageResult}
use Rattle.protocol_controls.specs.declared.notification.NotificationMessageResult.TheVariants as record_results
use Rattle.protocol_stream.specs.declared.decoder.DecodingError.{DecodingError}
use Rattle.protocol_stream.specs.declared.decoder.DecodingError.TheVariants.{MissingField, OutOfMemory}
use Rattle.protocol_stream.specs.declared.decoder.NotificationField.{NotificationField}
use Rattle.protocol_stream.specs.declared.decoder.NotificationField.TheVariants as lacks
use Rattle.protocol_stream.specs.Records.{failure_told}

abbrev pub is_failure : NotificationResult → Bool
is_failure (results.Failure failure) = true
is_failure _ = false

abbrev pub id_told : NotificationMessageId → NotificationId
id_told (record_ids.CompletionId n) = ids.CompletionId n
id_told (record_ids.SignalId n) = ids.SignalId n
id_told (record_ids.SignalName name) = ids.SignalName name

abbrev pub result_told : NotificationMessageResult → NotificationResult
result_told (record_results.Void void) = results.Void
result_told (record_results.Value value) = results.Value value.content
result_told (record_results.Failure failure) = results.Failure (failure_told failure)
result_told (record_results.InvocationId id) = results.InvocationId id
result_told (record_results.StateKeys keys) = results.StateKeys keys.keys

-- where both are missing, the id is told
abbrev pub both_told : Option NotificationMessageId → Option NotificationMessageResult → Result Notification NotificationField
both_told None result = Err lacks.Id
both_told (Some id) None = Err lacks.Result
both_told (Some id) (Some result) = Ok (record { id = id_told id; result = result_told result })

-- the notification that a record tells, or which field it lacks
abbrev pub notification_told : NotificationMessage → Result Notification NotificationField
notification_told found = both_told found.id found.result

-- the notification of a record, unless memory was refused
abbrev pub TellsNotification : NotificationMessage → Result Notification DecodingError → Type 0
TellsNotification found (Ok notification) = notification_told found ≡ Ok notification
TellsNotification found (Err (MissingField field)) = notification_told found ≡ Err field
TellsNotification found (Err OutOfMemory) = Unit {0}
TellsNotification found (Err _) = ⊥
