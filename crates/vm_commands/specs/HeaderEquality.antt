-- When the command that a call makes is the recorded one, but for what is not compared.
use Rattle.std.specs.Prelude.{◌≡◌, ◌↔◌, Bool, true, false, ◌||◌, Option, Some, None}
use Rattle.journal_model.specs.declared.call.Call.{Call}
use Rattle.journal_model.specs.Request.{Request}
use Rattle.journal_model.specs.Spelling.{request_type}
use Rattle.protocol_types.specs.declared.message_type.MessageType.{MessageType}
use Rattle.protocol_types.specs.declared.message_type.MessageType.TheVariants as types
use Rattle.protocol_equality.specs.Laws.{AreHeaderEqual}
use Rattle.protocol_equality.specs.Commands.{same_output_command, erased_output_command, same_sleep_command, erased_sleep_command, same_get_lazy_state_command, erased_get_lazy_state_command, same_get_lazy_state_keys_command, erased_get_lazy_state_keys_command, same_get_eager_state_command, erased_get_eager_state_command, same_get_eager_state_keys_command, erased_get_eager_state_keys_command, same_set_state_command, erased_set_state_command, same_clear_state_command, erased_clear_state_command, same_clear_all_state_command, erased_clear_all_state_command, same_get_promise_command, erased_get_promise_command, same_peek_promise_command, erased_peek_promise_command, same_complete_promise_command, erased_complete_promise_command, same_run_command, erased_run_command, same_send_signal_command, erased_send_signal_command, same_attach_invocation_command, erased_attach_invocation_command, same_get_invocation_output_command, erased_get_invocation_output_command, same_complete_awakeable_command, erased_complete_awakeable_command}
use Rattle.protocol_equality.specs.Calls.{same_call_command, erased_call_command, same_one_way_call_command, erased_one_way_call_command}
use Rattle.protocol_laws.specs.Commands.{CommandRecord, command_record}
use Rattle.attempt_model.specs.Simulation.{AreReflexive}

-- Whether two records are of one command and have the same header: every field, but never the moment of a sleep or of a send,
-- and where payloads are ignored not what they pass on.
abbrev pub same_record : (ignoring : Bool) → CommandRecord → CommandRecord → Bool
same_record ignoring (CommandRecord.Output x) (CommandRecord.Output y) = same_output_command ignoring x y
same_record ignoring (CommandRecord.GetLazyState x) (CommandRecord.GetLazyState y) = same_get_lazy_state_command ignoring x y
same_record ignoring (CommandRecord.GetEagerState x) (CommandRecord.GetEagerState y) = same_get_eager_state_command ignoring x y
same_record ignoring (CommandRecord.GetLazyStateKeys x) (CommandRecord.GetLazyStateKeys y) = same_get_lazy_state_keys_command ignoring x y
same_record ignoring (CommandRecord.GetEagerStateKeys x) (CommandRecord.GetEagerStateKeys y) = same_get_eager_state_keys_command ignoring x y
same_record ignoring (CommandRecord.SetState x) (CommandRecord.SetState y) = same_set_state_command ignoring x y
same_record ignoring (CommandRecord.ClearState x) (CommandRecord.ClearState y) = same_clear_state_command ignoring x y
same_record ignoring (CommandRecord.ClearAllState x) (CommandRecord.ClearAllState y) = same_clear_all_state_command ignoring x y
same_record ignoring (CommandRecord.GetPromise x) (CommandRecord.GetPromise y) = same_get_promise_command ignoring x y
same_record ignoring (CommandRecord.PeekPromise x) (CommandRecord.PeekPromise y) = same_peek_promise_command ignoring x y
same_record ignoring (CommandRecord.CompletePromise x) (CommandRecord.CompletePromise y) = same_complete_promise_command ignoring x y
same_record ignoring (CommandRecord.Sleep x) (CommandRecord.Sleep y) = same_sleep_command ignoring x y
same_record ignoring (CommandRecord.CallService x) (CommandRecord.CallService y) = same_call_command ignoring x y
same_record ignoring (CommandRecord.OneWayCall x) (CommandRecord.OneWayCall y) = same_one_way_call_command ignoring x y
same_record ignoring (CommandRecord.SendSignal x) (CommandRecord.SendSignal y) = same_send_signal_command ignoring x y
same_record ignoring (CommandRecord.Run x) (CommandRecord.Run y) = same_run_command ignoring x y
same_record ignoring (CommandRecord.AttachInvocation x) (CommandRecord.AttachInvocation y) = same_attach_invocation_command ignoring x y
same_record ignoring (CommandRecord.GetInvocationOutput x) (CommandRecord.GetInvocationOutput y) = same_get_invocation_output_command ignoring x y
same_record ignoring (CommandRecord.CompleteAwakeable x) (CommandRecord.CompleteAwakeable y) = same_complete_awakeable_command ignoring x y
same_record ignoring _ _ = false

-- what is compared of a record: the rest is replaced by one and the same value
abbrev pub erased_command : (ignoring : Bool) → CommandRecord → CommandRecord
erased_command ignoring (CommandRecord.Output x) = CommandRecord.Output (erased_output_command ignoring x)
erased_command ignoring (CommandRecord.GetLazyState x) = CommandRecord.GetLazyState (erased_get_lazy_state_command ignoring x)
erased_command ignoring (CommandRecord.GetEagerState x) = CommandRecord.GetEagerState (erased_get_eager_state_command ignoring x)
erased_command ignoring (CommandRecord.GetLazyStateKeys x) = CommandRecord.GetLazyStateKeys (erased_get_lazy_state_keys_command ignoring x)
erased_command ignoring (CommandRecord.GetEagerStateKeys x) = CommandRecord.GetEagerStateKeys (erased_get_eager_state_keys_command ignoring x)
erased_command ignoring (CommandRecord.SetState x) = CommandRecord.SetState (erased_set_state_command ignoring x)
erased_command ignoring (CommandRecord.ClearState x) = CommandRecord.ClearState (erased_clear_state_command ignoring x)
erased_command ignoring (CommandRecord.ClearAllState x) = CommandRecord.ClearAllState (erased_clear_all_state_command ignoring x)
erased_command ignoring (CommandRecord.GetPromise x) = CommandRecord.GetPromise (erased_get_promise_command ignoring x)
erased_command ignoring (CommandRecord.PeekPromise x) = CommandRecord.PeekPromise (erased_peek_promise_command ignoring x)
erased_command ignoring (CommandRecord.CompletePromise x) = CommandRecord.CompletePromise (erased_complete_promise_command ignoring x)
erased_command ignoring (CommandRecord.Sleep x) = CommandRecord.Sleep (erased_sleep_command ignoring x)
erased_command ignoring (CommandRecord.CallService x) = CommandRecord.CallService (erased_call_command ignoring x)
erased_command ignoring (CommandRecord.OneWayCall x) = CommandRecord.OneWayCall (erased_one_way_call_command ignoring x)
erased_command ignoring (CommandRecord.SendSignal x) = CommandRecord.SendSignal (erased_send_signal_command ignoring x)
erased_command ignoring (CommandRecord.Run x) = CommandRecord.Run (erased_run_command ignoring x)
erased_command ignoring (CommandRecord.AttachInvocation x) = CommandRecord.AttachInvocation (erased_attach_invocation_command ignoring x)
erased_command ignoring (CommandRecord.GetInvocationOutput x) = CommandRecord.GetInvocationOutput (erased_get_invocation_output_command ignoring x)
erased_command ignoring (CommandRecord.CompleteAwakeable x) = CommandRecord.CompleteAwakeable (erased_complete_awakeable_command ignoring x)

-- the type of message that a record is the payload of
abbrev pub type_of_command : CommandRecord → MessageType
type_of_command (CommandRecord.Output x) = types.OutputCommand
type_of_command (CommandRecord.GetLazyState x) = types.GetLazyStateCommand
type_of_command (CommandRecord.GetEagerState x) = types.GetEagerStateCommand
type_of_command (CommandRecord.GetLazyStateKeys x) = types.GetLazyStateKeysCommand
type_of_command (CommandRecord.GetEagerStateKeys x) = types.GetEagerStateKeysCommand
type_of_command (CommandRecord.SetState x) = types.SetStateCommand
type_of_command (CommandRecord.ClearState x) = types.ClearStateCommand
type_of_command (CommandRecord.ClearAllState x) = types.ClearAllStateCommand
type_of_command (CommandRecord.GetPromise x) = types.GetPromiseCommand
type_of_command (CommandRecord.PeekPromise x) = types.PeekPromiseCommand
type_of_command (CommandRecord.CompletePromise x) = types.CompletePromiseCommand
type_of_command (CommandRecord.Sleep x) = types.SleepCommand
type_of_command (CommandRecord.CallService x) = types.CallCommand
type_of_command (CommandRecord.OneWayCall x) = types.OneWayCallCommand
type_of_command (CommandRecord.SendSignal x) = types.SendSignalCommand
type_of_command (CommandRecord.Run x) = types.RunCommand
type_of_command (CommandRecord.AttachInvocation x) = types.AttachInvocationCommand
type_of_command (CommandRecord.GetInvocationOutput x) = types.GetInvocationOutputCommand
type_of_command (CommandRecord.CompleteAwakeable x) = types.CompleteAwakeableCommand

-- whether the recorded request and the one that a call makes have the same header
abbrev pub header_equal : (ignoring : Bool) → (recorded made : Request) → Bool
header_equal ignoring recorded made = same_record ignoring (command_record recorded) (command_record made)

-- the same of a recorded command, which may be none that a call makes
abbrev pub is_recorded : (ignoring : Bool) → Option Request → Request → Bool
is_recorded ignoring None made = false
is_recorded ignoring (Some recorded) made = header_equal ignoring recorded made

-- whether a call says that its payload may have other bytes in another attempt; a call without options does not
abbrev pub is_unstable : Call → Bool
is_unstable (Call.StateGet key name options) = options.unstable_serialization
is_unstable (Call.StateSet key value name options) = options.unstable_serialization
is_unstable (Call.Call target parameter name options) = options.unstable_serialization
is_unstable (Call.Send target parameter execution_time name options) = options.unstable_serialization
is_unstable (Call.CompleteAwakeable id value options) = options.unstable_serialization
is_unstable (Call.CompletePromise key value options) = options.unstable_serialization
is_unstable (Call.Output value options) = options.unstable_serialization
is_unstable _ = false

-- What a call's request is compared with: payloads are ignored where the machine's checks are off for them, or the call says so.
abbrev pub same_header : (checks_off : Bool) → Call → (recorded made : Request) → Bool
same_header checks_off call recorded made = header_equal (checks_off || is_unstable call) recorded made

-- ---- laws

-- each call's request has the header of itself
abbrev pub ComparesReflexively : Type 0
ComparesReflexively = (checks_off : Bool) → AreReflexive (same_header checks_off)

-- what has the same header is of one type
abbrev pub ComparesTypes : Type 0
ComparesTypes = (ignoring : Bool) (recorded made : Request) → header_equal ignoring recorded made ≡ true → request_type recorded ≡ request_type made

-- Headers are equal exactly where what is compared of the two records is the same. So whoever finds unequal commands equal, of
-- one type or of two, does not meet this.
abbrev pub ComparesHeaders : Type 0
ComparesHeaders = (ignoring : Bool) (recorded made : Request)
    → (header_equal ignoring recorded made ≡ true) ↔ AreHeaderEqual erased_command ignoring (command_record recorded) (command_record made)
