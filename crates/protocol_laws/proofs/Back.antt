-- The record of the request that a record stands for is that record.
use Rattle.std.proofs.Common.{◌≡◌, List, [], ◌∷◌, map, Option, Some, None, option_map, option_and_then, refl, ap, sym, ◌∙◌}
use Rattle.journal_model.specs.Request.{Request}
use Rattle.protocol_records.specs.declared.header.Header.{Header as HeaderRecord}
use Rattle.protocol_records.specs.declared.failure.Failure.{Failure as FailureRecord}
use Rattle.protocol_records.specs.declared.failure.FailureMetadata.{FailureMetadata}
use Rattle.protocol_records.specs.declared.value.Value.{Value}
use Rattle.protocol_records.specs.declared.state_keys.StateKeys.{StateKeys}
use Rattle.protocol_records.specs.declared.output_command.OutputCommandResult.{OutputCommandResult}
use Rattle.protocol_records.specs.declared.output_command.OutputCommandResult.TheVariants as outputs
use Rattle.protocol_commands.specs.declared.get_eager_state_command.GetEagerStateCommandResult.{GetEagerStateCommandResult}
use Rattle.protocol_commands.specs.declared.get_eager_state_command.GetEagerStateCommandResult.TheVariants as states
use Rattle.protocol_commands.specs.declared.complete_promise_command.CompletePromiseCommandCompletion.{CompletePromiseCommandCompletion}
use Rattle.protocol_commands.specs.declared.complete_promise_command.CompletePromiseCommandCompletion.TheVariants as promises
use Rattle.protocol_calls.specs.declared.call_command.CallCommandMessage.{CallCommandMessage}
use Rattle.protocol_calls.specs.declared.one_way_call_command.OneWayCallCommandMessage.{OneWayCallCommandMessage}
use Rattle.protocol_calls.specs.declared.send_signal_command.SendSignalCommandSignalId.{SendSignalCommandSignalId}
use Rattle.protocol_calls.specs.declared.send_signal_command.SendSignalCommandSignalId.TheVariants as signal_ids
use Rattle.protocol_calls.specs.declared.send_signal_command.SendSignalCommandResult.{SendSignalCommandResult}
use Rattle.protocol_calls.specs.declared.send_signal_command.SendSignalCommandResult.TheVariants as signals
use Rattle.protocol_calls.specs.declared.invocation_target.InvocationTarget.{InvocationTarget}
use Rattle.protocol_calls.specs.declared.invocation_target.InvocationTarget.TheVariants as targets
use Rattle.protocol_calls.specs.declared.complete_awakeable_command.CompleteAwakeableCommandResult.{CompleteAwakeableCommandResult}
use Rattle.protocol_calls.specs.declared.complete_awakeable_command.CompleteAwakeableCommandResult.TheVariants as awakeables
use Rattle.protocol_stream.specs.Records.{header_record, header_told, pair_record, pair_told, failure_record, result_record}
use Rattle.protocol_laws.specs.Records.{eager_result, promise_completion, call_record, one_way_call_record, signal_id, signal_result, awakeable_result, target_record}
use Rattle.protocol_laws.specs.Commands.{CommandRecord, command_record}
use Rattle.protocol_laws.specs.Requests.{failure_put_out, value_put_out, state_told, completion_told, signal_key_told, signal_value_told, awakeable_told, target_told, call_told, one_way_call_told, request_of_get_lazy_state, request_of_get_lazy_state_keys, request_of_clear_state, request_of_clear_all_state, request_of_get_promise, request_of_peek_promise, request_of_sleep, request_of_call, request_of_one_way_call, request_of_run}
use Rattle.protocol_laws.specs.Laws.{RecordsTold}

-- ---- what they hold

headers_back : (headers : List HeaderRecord) → map header_record (map header_told headers) ≡ headers
headers_back [] = refl
headers_back (header ∷ headers) = λ i. header ∷ headers_back headers i

pairs_back : (pairs : List FailureMetadata) → map pair_record (map pair_told pairs) ≡ pairs
pairs_back [] = refl
pairs_back (pair ∷ pairs) = λ i. pair ∷ pairs_back pairs i

key_back : (key : SendSignalCommandSignalId) → signal_id (signal_key_told key) ≡ key
key_back (signal_ids.Idx n) = refl
key_back (signal_ids.Name name) = refl

failure_back : (failure : FailureRecord) → failure_record (failure_put_out failure) ≡ failure
failure_back failure = λ i. record failure { metadata = pairs_back failure.metadata i }

state_back : (result : GetEagerStateCommandResult) → eager_result (state_told result) ≡ result
state_back (states.Void void) = refl
state_back (states.Value value) = refl

pub result_back : (result : OutputCommandResult) → result_record (value_put_out result) ≡ result
result_back (outputs.Value value) = refl
result_back (outputs.Failure failure) = ap outputs.Failure (failure_back failure)

completion_back : (completion : CompletePromiseCommandCompletion) → promise_completion (completion_told completion) ≡ completion
completion_back (promises.CompletionValue value) = refl
completion_back (promises.CompletionFailure failure) = λ i. promises.CompletionFailure (failure_back failure i)

signal_back : (result : SendSignalCommandResult) → signal_result (signal_value_told result) ≡ result
signal_back (signals.Void void) = refl
signal_back (signals.Value value) = refl
signal_back (signals.Failure failure) = ap signals.Failure (failure_back failure)

target_back : (target : InvocationTarget) → target_record (target_told target) ≡ target
target_back (targets.InvocationId id) = refl
target_back (targets.WorkflowTarget one) = refl
target_back (targets.IdempotentRequestTarget one) = refl

awakeable_back : (result : CompleteAwakeableCommandResult) → awakeable_result (awakeable_told result) ≡ result
awakeable_back (awakeables.Value value) = refl
awakeable_back (awakeables.Failure failure) = λ i. awakeables.Failure (failure_back failure i)

pub call_back : (one : CallCommandMessage) → call_record (call_told one) one.invocation_id_notification_idx one.result_completion_id one.name ≡ one
call_back one = λ i. record one { headers = headers_back one.headers i }

one_way_call_back : (one : OneWayCallCommandMessage) → one_way_call_record (one_way_call_told one) one.invoke_time one.invocation_id_notification_idx one.name ≡ one
one_way_call_back one = λ i. record one { headers = headers_back one.headers i }

-- ---- commands

some_back : (found request : Request) (one : CommandRecord) → command_record found ≡ one → Some found ≡ Some request → command_record request ≡ one
some_back found request one back h =
    let same : found ≡ request = cc in
    ap command_record (sym same) ∙ back

-- where what each request has may be absent
map_back : {A : Type 0} (f : A → Request) (wrap : Option A → CommandRecord) (value : Option A) (request : Request)
    → ((a : A) → command_record (f a) ≡ wrap (Some a)) → option_map f value ≡ Some request → command_record request ≡ wrap value
map_back f wrap None request back h = cc
map_back f wrap (Some a) request back h = some_back (f a) request (wrap (Some a)) (back a) h

then_back : {A : Type 0} (f : A → Option Request) (wrap : Option A → CommandRecord) (value : Option A) (request : Request)
    → ((a : A) → f a ≡ Some request → command_record request ≡ wrap (Some a)) → option_and_then f value ≡ Some request → command_record request ≡ wrap value
then_back f wrap None request back h = cc
then_back f wrap (Some a) request back h = back a h

pub records_told : RecordsTold
records_told (CommandRecord.Output one) request h =
    map_back (λ (result : OutputCommandResult). Request.Output (value_put_out result) one.name) (λ result. CommandRecord.Output (record one { result = result })) one.result request
    (λ result i. CommandRecord.Output (record one { result = Some (result_back result i) })) h
records_told (CommandRecord.GetLazyState one) request h = some_back (request_of_get_lazy_state one) request (CommandRecord.GetLazyState one) refl h
records_told (CommandRecord.GetEagerState one) request h =
    map_back (λ (result : GetEagerStateCommandResult). Request.GetEagerState one.key (state_told result) one.name) (λ result. CommandRecord.GetEagerState (record one { result = result })) one.result request
    (λ result i. CommandRecord.GetEagerState (record one { result = Some (state_back result i) })) h
records_told (CommandRecord.GetLazyStateKeys one) request h = some_back (request_of_get_lazy_state_keys one) request (CommandRecord.GetLazyStateKeys one) refl h
records_told (CommandRecord.GetEagerStateKeys one) request h =
    map_back (λ (keys : StateKeys). Request.GetEagerStateKeys keys.keys one.name) (λ keys. CommandRecord.GetEagerStateKeys (record one { value = keys })) one.value request (λ keys. refl) h
records_told (CommandRecord.SetState one) request h =
    map_back (λ (value : Value). Request.SetState one.key value.content one.name) (λ value. CommandRecord.SetState (record one { value = value })) one.value request (λ value. refl) h
records_told (CommandRecord.ClearState one) request h = some_back (request_of_clear_state one) request (CommandRecord.ClearState one) refl h
records_told (CommandRecord.ClearAllState one) request h = some_back (request_of_clear_all_state one) request (CommandRecord.ClearAllState one) refl h
records_told (CommandRecord.GetPromise one) request h = some_back (request_of_get_promise one) request (CommandRecord.GetPromise one) refl h
records_told (CommandRecord.PeekPromise one) request h = some_back (request_of_peek_promise one) request (CommandRecord.PeekPromise one) refl h
records_told (CommandRecord.CompletePromise one) request h =
    map_back (λ (completion : CompletePromiseCommandCompletion). Request.CompletePromise one.key (completion_told completion) one.result_completion_id one.name) (λ completion. CommandRecord.CompletePromise (record one { completion = completion }))
    one.completion request (λ completion i. CommandRecord.CompletePromise (record one { completion = Some (completion_back completion i) })) h
records_told (CommandRecord.Sleep one) request h = some_back (request_of_sleep one) request (CommandRecord.Sleep one) refl h
records_told (CommandRecord.CallService one) request h = some_back (request_of_call one) request (CommandRecord.CallService one) (ap CommandRecord.CallService (call_back one)) h
records_told (CommandRecord.OneWayCall one) request h = some_back (request_of_one_way_call one) request (CommandRecord.OneWayCall one) (ap CommandRecord.OneWayCall (one_way_call_back one)) h
records_told (CommandRecord.SendSignal one) request h =
    then_back (λ (key : SendSignalCommandSignalId). option_map (λ (value : SendSignalCommandResult). Request.SendSignal one.target_invocation_id (signal_key_told key) (signal_value_told value) one.entry_name) one.result)
    (λ key. CommandRecord.SendSignal (record one { signal_id = key })) one.signal_id request
    (λ key. map_back (λ (value : SendSignalCommandResult). Request.SendSignal one.target_invocation_id (signal_key_told key) (signal_value_told value) one.entry_name)
    (λ value. CommandRecord.SendSignal (record one { signal_id = Some key; result = value })) one.result request
    (λ value i. CommandRecord.SendSignal (record one { signal_id = Some (key_back key i); result = Some (signal_back value i) }))) h
records_told (CommandRecord.Run one) request h = some_back (request_of_run one) request (CommandRecord.Run one) refl h
records_told (CommandRecord.AttachInvocation one) request h =
    map_back (λ (target : InvocationTarget). Request.AttachInvocation (target_told target) one.result_completion_id one.name) (λ target. CommandRecord.AttachInvocation (record one { target = target }))
    one.target request (λ target i. CommandRecord.AttachInvocation (record one { target = Some (target_back target i) })) h
records_told (CommandRecord.GetInvocationOutput one) request h =
    map_back (λ (target : InvocationTarget). Request.GetInvocationOutput (target_told target) one.result_completion_id one.name) (λ target. CommandRecord.GetInvocationOutput (record one { target = target }))
    one.target request (λ target i. CommandRecord.GetInvocationOutput (record one { target = Some (target_back target i) })) h
records_told (CommandRecord.CompleteAwakeable one) request h =
    map_back (λ (result : CompleteAwakeableCommandResult). Request.CompleteAwakeable one.awakeable_id (awakeable_told result) one.name) (λ result. CommandRecord.CompleteAwakeable (record one { result = result }))
    one.result request (λ result i. CommandRecord.CompleteAwakeable (record one { result = Some (awakeable_back result i) })) h
