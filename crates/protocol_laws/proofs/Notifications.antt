-- Notifications, acknowledgements and suspensions.
use Rattle.std.proofs.Common.{◌≡◌, [], ◌++◌, Some, refl}
use Rattle.protocol_wire.specs.Parts.{payload_of}
use Rattle.journal_model.specs.Spelling as model
use Rattle.journal_model.specs.declared.notification.Failure.{Failure}
use Rattle.journal_model.specs.declared.notification.NotificationId.{NotificationId}
use Rattle.journal_model.specs.declared.notification.NotificationId.TheVariants as ids
use Rattle.journal_model.specs.declared.notification.NotificationResult.{NotificationResult}
use Rattle.journal_model.specs.declared.notification.NotificationResult.TheVariants as results
use Rattle.protocol_records.specs.Failure.{failure_parts}
use Rattle.protocol_records.specs.Suspension.{suspension_parts}
use Rattle.protocol_controls.specs.ProposeRunCompletionAck.{propose_run_completion_ack_parts}
use Rattle.protocol_stream.specs.Records.{future_record, arrived_failure_record}
use Rattle.protocol_controls.specs.Notification.{id_parts, result_parts}
use Rattle.protocol_stream.proofs.Spellings.{plain_number-is, optional_bytes-is, AreSpelled, spelled-cons, spelled-last, payload_is}
use Rattle.protocol_stream.proofs.RecordSpellings.{value_spelling, failure_spelling, one_record, tree_spelled}
use Rattle.protocol_laws.specs.Records.{id_record, result_record}
use Rattle.protocol_laws.specs.Laws.{NotificationsSpelled, AcknowledgementsSpelled, SuspensionsSpelled}
use Rattle.protocol_laws.proofs.Fields.{present_number, spelled-none, keys_spelling}

arrived_failure_spelling : (failure : Failure) → payload_of (failure_parts (arrived_failure_record failure)) ≡ model.failure_payload failure
arrived_failure_spelling failure = failure_spelling (record { code = failure.code; message = failure.message; metadata = failure.metadata })

result_spelled : (result : NotificationResult) → AreSpelled (result_parts (Some (result_record result))) (model.result_field result)
result_spelled results.Void = spelled-last _ _ _ refl (one_record 4 [] [] refl)
result_spelled (results.Value bytes) = spelled-none _ _ _ refl (spelled-last _ _ _ refl (one_record 5 _ _ (value_spelling bytes)))
result_spelled (results.Failure failure) = spelled-none _ _ _ refl (spelled-none _ _ _ refl (spelled-last _ _ _ refl (one_record 6 _ _ (arrived_failure_spelling failure))))
result_spelled (results.InvocationId id) = spelled-none _ _ _ refl (spelled-none _ _ _ refl (spelled-none _ _ _ refl (spelled-last _ _ _ refl (optional_bytes-is 7 (Some id)))))
result_spelled (results.StateKeys keys) = spelled-none _ _ _ refl (spelled-none _ _ _ refl (spelled-none _ _ _ refl (spelled-none _ _ _ refl (spelled-last _ _ _ refl (one_record 8 _ _ (keys_spelling keys))))))

both_spelled : (id : NotificationId) (result : NotificationResult) → AreSpelled (id_parts (Some (id_record id)) ++ result_parts (Some (result_record result))) (model.id_field id ++ model.result_field result)
both_spelled (ids.CompletionId n) result = spelled-cons _ _ _ _ (present_number 1 n) (spelled-none _ _ _ refl (spelled-none _ _ _ refl (result_spelled result)))
both_spelled (ids.SignalId n) result = spelled-none _ _ _ refl (spelled-cons _ _ _ _ (present_number 2 n) (spelled-none _ _ _ refl (result_spelled result)))
both_spelled (ids.SignalName name) result = spelled-none _ _ _ refl (spelled-none _ _ _ refl (spelled-cons _ _ _ _ (optional_bytes-is 3 (Some name)) (result_spelled result)))

pub notifications_spelled : NotificationsSpelled
notifications_spelled arrival = (both_spelled arrival.id arrival.result).payload

pub acknowledgements_spelled : AcknowledgementsSpelled
acknowledgements_spelled completion = payload_is (propose_run_completion_ack_parts (record { completion_id = completion })) _ (spelled-last _ _ _ refl (plain_number-is 1 completion))

pub suspensions_spelled : SuspensionsSpelled
suspensions_spelled tree = payload_is (suspension_parts (record { awaiting_on = Some (future_record tree) })) _ (spelled-last _ _ _ refl (tree_spelled tree))
