-- Requests.
use Rattle.std.proofs.Common.{ℕ, List, [], ◌∷◌, ◌++◌, Some, None, refl}
use Rattle.protocol_wire.specs.Parts as parts
use Rattle.journal_model.specs.Spelling as model
use Rattle.journal_model.specs.declared.value.NonEmptyValue.{NonEmptyValue}
use Rattle.journal_model.specs.declared.call.AttachInvocationTarget.{AttachInvocationTarget}
use Rattle.journal_model.specs.Request.{Request, SignalValue}
use Rattle.journal_model.specs.declared.notification.SignalKey.{SignalKey}
use Rattle.protocol_calls.specs.SendSignalCommand as send_signal
use Rattle.protocol_stream.proofs.Spellings.{plain_number-is, plain_bytes-is, optional_bytes-is, AreSpelled, spelled-cons, spelled-last}
use Rattle.protocol_stream.proofs.RecordSpellings.{value_spelling, failure_spelling, one_record, asked, sleeps_spelled, outputs_spelled}
use Rattle.protocol_laws.specs.Records.{signal_result}
use Rattle.protocol_laws.specs.Payloads.{record_parts}
use Rattle.protocol_laws.specs.Laws.{RequestsSpelled}
use Rattle.protocol_laws.proofs.Fields.{present_number, spelled-none, keys_spelling, workflow_spelling, idempotent_spelling, call_spelled}

keyed : (key : List ℕ) (n : ℕ) (name : List ℕ) → AreSpelled (parts.plain_bytes 1 key ∷ parts.plain_number 11 n ∷ parts.plain_bytes 12 name ∷ []) (model.plain_bytes 1 key ++ model.asked_as n name)
keyed key n name = spelled-cons _ _ _ _ (plain_bytes-is 1 key) (asked n name)

named : (name : List ℕ) → AreSpelled (parts.plain_bytes 12 name ∷ []) (model.plain_bytes 12 name)
named name = spelled-last _ _ _ refl (plain_bytes-is 12 name)

signal_spelled : (value : SignalValue) (name : List ℕ) → AreSpelled (send_signal.result_parts (Some (signal_result value)) ++ (parts.plain_bytes 12 name ∷ [])) (model.signal_value_field value ++ model.plain_bytes 12 name)
signal_spelled SignalValue.Empty name = spelled-cons _ _ _ _ (one_record 4 [] [] refl) (spelled-none _ _ _ refl (spelled-none _ _ _ refl (named name)))
signal_spelled (SignalValue.Carries (NonEmptyValue.Success bytes)) name = spelled-none _ _ _ refl (spelled-cons _ _ _ _ (one_record 5 _ _ (value_spelling bytes)) (spelled-none _ _ _ refl (named name)))
signal_spelled (SignalValue.Carries (NonEmptyValue.Failure failure)) name = spelled-none _ _ _ refl (spelled-none _ _ _ refl (spelled-cons _ _ _ _ (one_record 6 _ _ (failure_spelling failure)) (named name)))

are_spelled : (request : Request) → AreSpelled (record_parts request) (model.request_payload request)
are_spelled (Request.Output value name) = record { payload = outputs_spelled value name }
are_spelled (Request.GetLazyState key n name) = (keyed key n name)
are_spelled (Request.GetEagerState key None name) =
    (spelled-cons _ _ _ _ (plain_bytes-is 1 key) (spelled-cons _ _ _ _ (plain_bytes-is 12 name) (spelled-last _ _ _ refl (one_record 13 [] [] refl))))
are_spelled (Request.GetEagerState key (Some bytes) name) =
    (spelled-cons _ _ _ _ (plain_bytes-is 1 key) (spelled-cons _ _ _ _ (plain_bytes-is 12 name) (spelled-none _ _ _ refl (spelled-last _ _ _ refl (one_record 14 _ _ (value_spelling bytes))))))
are_spelled (Request.GetLazyStateKeys n name) = (asked n name)
are_spelled (Request.GetEagerStateKeys keys name) = (spelled-cons _ _ _ _ (plain_bytes-is 12 name) (spelled-last _ _ _ refl (one_record 14 _ _ (keys_spelling keys))))
are_spelled (Request.SetState key value name) =
    (spelled-cons _ _ _ _ (plain_bytes-is 1 key) (spelled-cons _ _ _ _ (one_record 3 _ _ (value_spelling value)) (named name)))
are_spelled (Request.ClearState key name) = (spelled-cons _ _ _ _ (plain_bytes-is 1 key) (named name))
are_spelled (Request.ClearAllState name) = (named name)
are_spelled (Request.GetPromise key n name) = (keyed key n name)
are_spelled (Request.PeekPromise key n name) = (keyed key n name)
are_spelled (Request.CompletePromise key (NonEmptyValue.Success bytes) n name) =
    (spelled-cons _ _ _ _ (plain_bytes-is 1 key) (spelled-cons _ _ _ _ (one_record 2 _ _ (value_spelling bytes)) (spelled-none _ _ _ refl (asked n name))))
are_spelled (Request.CompletePromise key (NonEmptyValue.Failure failure) n name) =
    (spelled-cons _ _ _ _ (plain_bytes-is 1 key) (spelled-none _ _ _ refl (spelled-cons _ _ _ _ (one_record 3 _ _ (failure_spelling failure)) (asked n name))))
are_spelled (Request.Sleep time n name) = record { payload = sleeps_spelled time n name }
are_spelled (Request.CallService call m n name) = (call_spelled call _ _ (spelled-cons _ _ _ _ (plain_number-is 10 m) (asked n name)))
are_spelled (Request.OneWayCall call time m name) = (call_spelled call _ _ (spelled-cons _ _ _ _ (plain_number-is 9 time) (spelled-cons _ _ _ _ (plain_number-is 10 m) (named name))))
are_spelled (Request.SendSignal target (SignalKey.ByIndex n) value name) =
    (spelled-cons _ _ _ _ (plain_bytes-is 1 target) (spelled-cons _ _ _ _ (present_number 2 n) (spelled-none _ _ _ refl (signal_spelled value name))))
are_spelled (Request.SendSignal target (SignalKey.ByName key) value name) =
    (spelled-cons _ _ _ _ (plain_bytes-is 1 target) (spelled-none _ _ _ refl (spelled-cons _ _ _ _ (optional_bytes-is 3 (Some key)) (signal_spelled value name))))
are_spelled (Request.Run n name) = (asked n name)
are_spelled (Request.AttachInvocation (AttachInvocationTarget.InvocationId id) n name) =
    (spelled-cons _ _ _ _ (optional_bytes-is 1 (Some id)) (spelled-none _ _ _ refl (spelled-none _ _ _ refl (asked n name))))
are_spelled (Request.AttachInvocation (AttachInvocationTarget.WorkflowId workflow key scope) n name) =
    (spelled-none _ _ _ refl (spelled-cons _ _ _ _ (one_record 2 _ _ (workflow_spelling workflow key scope)) (spelled-none _ _ _ refl (asked n name))))
are_spelled (Request.AttachInvocation (AttachInvocationTarget.IdempotencyId service handler key service_key scope) n name) =
    (spelled-none _ _ _ refl (spelled-none _ _ _ refl (spelled-cons _ _ _ _ (one_record 3 _ _ (idempotent_spelling service handler key service_key scope)) (asked n name))))
are_spelled (Request.GetInvocationOutput (AttachInvocationTarget.InvocationId id) n name) =
    (spelled-cons _ _ _ _ (optional_bytes-is 1 (Some id)) (spelled-none _ _ _ refl (spelled-none _ _ _ refl (asked n name))))
are_spelled (Request.GetInvocationOutput (AttachInvocationTarget.WorkflowId workflow key scope) n name) =
    (spelled-none _ _ _ refl (spelled-cons _ _ _ _ (one_record 2 _ _ (workflow_spelling workflow key scope)) (spelled-none _ _ _ refl (asked n name))))
are_spelled (Request.GetInvocationOutput (AttachInvocationTarget.IdempotencyId service handler key service_key scope) n name) =
    (spelled-none _ _ _ refl (spelled-none _ _ _ refl (spelled-cons _ _ _ _ (one_record 3 _ _ (idempotent_spelling service handler key service_key scope)) (asked n name))))
are_spelled (Request.CompleteAwakeable id (NonEmptyValue.Success bytes) name) =
    (spelled-cons _ _ _ _ (plain_bytes-is 1 id) (spelled-cons _ _ _ _ (one_record 2 _ _ (value_spelling bytes)) (spelled-none _ _ _ refl (named name))))
are_spelled (Request.CompleteAwakeable id (NonEmptyValue.Failure failure) name) =
    (spelled-cons _ _ _ _ (plain_bytes-is 1 id) (spelled-none _ _ _ refl (spelled-cons _ _ _ _ (one_record 3 _ _ (failure_spelling failure)) (named name))))

pub requests_spelled : RequestsSpelled
requests_spelled request = (are_spelled request).payload
