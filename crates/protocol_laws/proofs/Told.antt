-- The records of requests stand for these.
use Rattle.std.proofs.Common.{◌≡◌, ℕ, List, [], ◌∷◌, map, Some, None, refl, ap}
use Rattle.journal_model.specs.Notification.{Text}
use Rattle.journal_model.specs.declared.value.NonEmptyValue.{NonEmptyValue}
use Rattle.journal_model.specs.declared.value.TerminalFailure.{TerminalFailure}
use Rattle.journal_model.specs.declared.call.Header.{Header}
use Rattle.journal_model.specs.declared.call.AttachInvocationTarget.{AttachInvocationTarget}
use Rattle.journal_model.specs.Request.{Request, CallRecord, SignalValue}
use Rattle.journal_model.specs.declared.notification.SignalKey.{SignalKey}
use Rattle.protocol_stream.specs.Records.{header_record, header_told, pair_record, pair_told, failure_record, result_record}
use Rattle.protocol_laws.specs.Records.{promise_completion, call_record, one_way_call_record, signal_id, signal_result, awakeable_result, target_record}
use Rattle.protocol_laws.specs.Requests.{failure_put_out, value_put_out, completion_told, signal_key_told, signal_value_told, awakeable_told, target_told, call_told, one_way_call_told}
use Rattle.protocol_laws.specs.Laws.{RequestsTold}

headers_told : (headers : List Header) → map header_told (map header_record headers) ≡ headers
headers_told [] = refl
headers_told (header ∷ headers) = λ i. header ∷ headers_told headers i

pairs_told : (pairs : List (Text × Text)) → map pair_told (map pair_record pairs) ≡ pairs
pairs_told [] = refl
pairs_told (pair ∷ pairs) = λ i. pair ∷ pairs_told pairs i

failure_told : (failure : TerminalFailure) → failure_put_out (failure_record failure) ≡ failure
failure_told failure = λ i. record failure { metadata = pairs_told failure.metadata i }

pub output_told : (value : NonEmptyValue) → value_put_out (result_record value) ≡ value
output_told (NonEmptyValue.Success bytes) = refl
output_told (NonEmptyValue.Failure failure) = ap NonEmptyValue.Failure (failure_told failure)

promise_told : (value : NonEmptyValue) → completion_told (promise_completion value) ≡ value
promise_told (NonEmptyValue.Success bytes) = refl
promise_told (NonEmptyValue.Failure failure) = ap NonEmptyValue.Failure (failure_told failure)

handed_told : (value : NonEmptyValue) → awakeable_told (awakeable_result value) ≡ value
handed_told (NonEmptyValue.Success bytes) = refl
handed_told (NonEmptyValue.Failure failure) = ap NonEmptyValue.Failure (failure_told failure)

carried_told : (value : SignalValue) → signal_value_told (signal_result value) ≡ value
carried_told SignalValue.Empty = refl
carried_told (SignalValue.Carries (NonEmptyValue.Success bytes)) = refl
carried_told (SignalValue.Carries (NonEmptyValue.Failure failure)) = λ i. SignalValue.Carries (NonEmptyValue.Failure (failure_told failure i))

key_told : (key : SignalKey) → signal_key_told (signal_id key) ≡ key
key_told (SignalKey.ByIndex n) = refl
key_told (SignalKey.ByName name) = refl

attached_told : (target : AttachInvocationTarget) → target_told (target_record target) ≡ target
attached_told (AttachInvocationTarget.InvocationId id) = refl
attached_told (AttachInvocationTarget.WorkflowId name key scope) = refl
attached_told (AttachInvocationTarget.IdempotencyId service handler key service_key scope) = refl

called_told : (call : CallRecord) (m n : ℕ) (name : Text) → call_told (call_record call m n name) ≡ call
called_told call m n name = λ i. record call { headers = headers_told call.headers i }

sent_told : (call : CallRecord) (time m : ℕ) (name : Text) → one_way_call_told (one_way_call_record call time m name) ≡ call
sent_told call time m name = λ i. record call { headers = headers_told call.headers i }

pub requests_told : RequestsTold
requests_told (Request.Output value name) = λ i. Some (Request.Output (output_told value i) name)
requests_told (Request.GetEagerState key None name) = refl
requests_told (Request.GetEagerState key (Some bytes) name) = refl
requests_told (Request.CompletePromise key value n name) = λ i. Some (Request.CompletePromise key (promise_told value i) n name)
requests_told (Request.CallService call m n name) = λ i. Some (Request.CallService (called_told call m n name i) m n name)
requests_told (Request.OneWayCall call time m name) = λ i. Some (Request.OneWayCall (sent_told call time m name i) time m name)
requests_told (Request.SendSignal target key value name) = λ i. Some (Request.SendSignal target (key_told key i) (carried_told value i) name)
requests_told (Request.AttachInvocation target n name) = λ i. Some (Request.AttachInvocation (attached_told target i) n name)
requests_told (Request.GetInvocationOutput target n name) = λ i. Some (Request.GetInvocationOutput (attached_told target i) n name)
requests_told (Request.CompleteAwakeable id value name) = λ i. Some (Request.CompleteAwakeable id (handed_told value i) name)
requests_told _ = refl
