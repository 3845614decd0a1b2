-- What each call of a host does to a machine in every phase, and what it answers.
use Rattle.std.specs.Prelude.{ℕ, [], not, codes, Option, None, Result}
use Rattle.journal_model.specs.Notification.{Bytes, Text}
use Rattle.journal_model.specs.Run.{name_or_empty}
use Rattle.journal_model.specs.declared.call.Answer.{Answer}
use Rattle.journal_model.specs.declared.call.AttachInvocationTarget.{AttachInvocationTarget}
use Rattle.journal_model.specs.declared.call.Call.{Call}
use Rattle.journal_model.specs.declared.call.Moment.{Moment}
use Rattle.journal_model.specs.declared.call.PayloadOptions.{PayloadOptions}
use Rattle.journal_model.specs.declared.call.Target.{Target}
use Rattle.journal_model.specs.declared.value.NonEmptyValue.{NonEmptyValue}
use Rattle.journal_model.specs.declared.value.Value.{Value}
use Rattle.protocol_differences.specs.Calls.{call_command_difference, one_way_call_command_difference}
use Rattle.protocol_differences.specs.Control.{output_command_difference, sleep_command_difference}
use Rattle.protocol_differences.specs.Invocations.{attach_invocation_command_difference, complete_awakeable_command_difference, get_invocation_output_command_difference, send_signal_command_difference}
use Rattle.protocol_differences.specs.Promises.{complete_promise_command_difference, get_promise_command_difference, peek_promise_command_difference}
use Rattle.protocol_differences.specs.State.{clear_all_state_command_difference, clear_state_command_difference, set_state_command_difference}
use Rattle.protocol_errors.specs.declared.error.Error.{Error}
use Rattle.protocol_types.specs.declared.message_type.MessageType.TheVariants as messages
use Rattle.vm_machine.specs.Causes.{NumberCauses}
use Rattle.vm_context.specs.Eager.{is_known}
use Rattle.vm_feeding.specs.CommandlessCalls.{IsCalled}
use Rattle.vm_feeding.specs.Handles.{IsAwakeable, IsNoAwakeable, MakesSignal, IsNoSignal, TakesFirstResult, TakeCauses}
use Rattle.vm_progress.specs.StateReadEffects.{value_read, keys_read, StepsOfRead}
use Rattle.vm_machine.specs.Calls.{Calls}
use Rattle.vm_machine.specs.Steps.{IsUnexpected, Steps}
use Rattle.vm_machine.specs.declared.machine_state.MachineState.{MachineState}
use Rattle.vm_types.specs.declared.handles.AwakeableHandle.{AwakeableHandle}
use Rattle.vm_types.specs.declared.handles.CallHandle.{CallHandle}
use Rattle.vm_types.specs.declared.handles.SendHandle.{SendHandle}

-- ---- the object's state

abbrev pub SysStateGet : (key : Text) → (name : Option Text) → PayloadOptions → (old : MachineState) → Result ℕ Error → (new : MachineState) → Type 0
SysStateGet key name options old result new = StepsOfRead value_read (Call.StateGet key name options) (λ active. is_known active.state key) (name_or_empty name) old result new

abbrev pub SysStateGetKeys : (name : Option Text) → (old : MachineState) → Result ℕ Error → (new : MachineState) → Type 0
SysStateGetKeys name old result new = StepsOfRead keys_read (Call.StateGetKeys name) (λ active. not active.state.is_partial) (name_or_empty name) old result new

abbrev pub SysStateSet : (key : Text) → (value : Bytes) → (name : Option Text) → PayloadOptions → (old : MachineState) → Result (Unit {0}) Error → (new : MachineState) → Type 0
SysStateSet key value name options old result new =
    Calls set_state_command_difference (Call.StateSet key value name options) (λ done. Answer.Done) [] messages.SetStateCommand (name_or_empty name) old result new

abbrev pub SysStateClear : (key : Text) → (name : Option Text) → (old : MachineState) → Result (Unit {0}) Error → (new : MachineState) → Type 0
SysStateClear key name old result new = Calls clear_state_command_difference (Call.StateClear key name) (λ done. Answer.Done) [] messages.ClearStateCommand (name_or_empty name) old result new

abbrev pub SysStateClearAll : (name : Option Text) → (old : MachineState) → Result (Unit {0}) Error → (new : MachineState) → Type 0
SysStateClearAll name old result new = Calls clear_all_state_command_difference (Call.StateClearAll name) (λ done. Answer.Done) [] messages.ClearAllStateCommand (name_or_empty name) old result new

-- ---- sleeps, calls and sends

abbrev pub SysSleep : (name : Text) → (wake_up : Moment) → (now : Option Moment) → (old : MachineState) → Result ℕ Error → (new : MachineState) → Type 0
SysSleep name wake_up now old result new =
    Calls sleep_command_difference (Call.Sleep name wake_up now) (λ handle. Answer.Handle handle) (codes "sleep duration") messages.SleepCommand name old result new

abbrev pub SysCall : Target → (parameter : Bytes) → (name : Option Text) → PayloadOptions → (old : MachineState) → Result CallHandle Error → (new : MachineState) → Type 0
SysCall target parameter name options old result new =
    Calls call_command_difference (Call.Call target parameter name options) (λ made. Answer.Handles made.invocation_id_notification_handle made.call_notification_handle) [] messages.CallCommand
    (name_or_empty name) old result new

abbrev pub SysSend : Target → (parameter : Bytes) → (execution_time : Option Moment) → (name : Option Text) → PayloadOptions → (old : MachineState) → Result SendHandle Error
    → (new : MachineState) → Type 0
SysSend target parameter execution_time name options old result new =
    Calls one_way_call_command_difference (Call.Send target parameter execution_time name options) (λ made. Answer.Handle made.invocation_id_notification_handle) (codes "send delay")
    messages.OneWayCallCommand (name_or_empty name) old result new

-- ---- awakeables and signals

abbrev pub SysAwakeable : (old : MachineState) → Result AwakeableHandle Error → (new : MachineState) → Type 0
SysAwakeable old result new = Steps IsAwakeable IsNoAwakeable None old result new

abbrev pub SysCompleteAwakeable : (id : Text) → NonEmptyValue → PayloadOptions → (old : MachineState) → Result (Unit {0}) Error → (new : MachineState) → Type 0
SysCompleteAwakeable id value options old result new =
    Calls complete_awakeable_command_difference (Call.CompleteAwakeable id value options) (λ done. Answer.Done) [] messages.CompleteAwakeableCommand [] old result new

abbrev pub CreateSignalHandle : (name : Text) → (old : MachineState) → Result ℕ Error → (new : MachineState) → Type 0
CreateSignalHandle name old result new = Steps (IsCalled (MakesSignal name) NumberCauses) IsNoSignal None old result new

abbrev pub SysCompleteSignal : (target_id name : Text) → NonEmptyValue → (old : MachineState) → Result (Unit {0}) Error → (new : MachineState) → Type 0
SysCompleteSignal target_id name value old result new =
    Calls send_signal_command_difference (Call.CompleteSignal target_id name value) (λ done. Answer.Done) [] messages.SendSignalCommand [] old result new

-- ---- promises

abbrev pub SysGetPromise : (key : Text) → (old : MachineState) → Result ℕ Error → (new : MachineState) → Type 0
SysGetPromise key old result new = Calls get_promise_command_difference (Call.GetPromise key) (λ handle. Answer.Handle handle) [] messages.GetPromiseCommand [] old result new

abbrev pub SysPeekPromise : (key : Text) → (old : MachineState) → Result ℕ Error → (new : MachineState) → Type 0
SysPeekPromise key old result new = Calls peek_promise_command_difference (Call.PeekPromise key) (λ handle. Answer.Handle handle) [] messages.PeekPromiseCommand [] old result new

abbrev pub SysCompletePromise : (key : Text) → NonEmptyValue → PayloadOptions → (old : MachineState) → Result ℕ Error → (new : MachineState) → Type 0
SysCompletePromise key value options old result new =
    Calls complete_promise_command_difference (Call.CompletePromise key value options) (λ handle. Answer.Handle handle) [] messages.CompletePromiseCommand [] old result new

-- ---- other invocations

abbrev pub SysCancelInvocation : (target_id : Text) → (old : MachineState) → Result (Unit {0}) Error → (new : MachineState) → Type 0
SysCancelInvocation target_id old result new = Calls send_signal_command_difference (Call.Cancel target_id) (λ done. Answer.Done) [] messages.SendSignalCommand [] old result new

abbrev pub SysAttachInvocation : AttachInvocationTarget → (old : MachineState) → Result ℕ Error → (new : MachineState) → Type 0
SysAttachInvocation target old result new =
    Calls attach_invocation_command_difference (Call.Attach target) (λ handle. Answer.Handle handle) [] messages.AttachInvocationCommand [] old result new

abbrev pub SysGetInvocationOutput : AttachInvocationTarget → (old : MachineState) → Result ℕ Error → (new : MachineState) → Type 0
SysGetInvocationOutput target old result new =
    Calls get_invocation_output_command_difference (Call.GetOutput target) (λ handle. Answer.Handle handle) [] messages.GetInvocationOutputCommand [] old result new

-- ---- what is taken and put out

abbrev pub TakeNotification : (handle : ℕ) → (old : MachineState) → Result (Option Value) Error → (new : MachineState) → Type 0
TakeNotification handle old result new = Steps (IsCalled (TakesFirstResult handle) TakeCauses) (IsUnexpected (codes "TakeNotification")) None old result new

abbrev pub SysWriteOutput : NonEmptyValue → PayloadOptions → (old : MachineState) → Result (Unit {0}) Error → (new : MachineState) → Type 0
SysWriteOutput value options old result new = Calls output_command_difference (Call.Output value options) (λ done. Answer.Done) [] messages.OutputCommand [] old result new
