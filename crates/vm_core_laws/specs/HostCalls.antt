-- The calls of a host that change a machine, and what any number of them does, whatever they answer.
use Rattle.std.specs.Prelude.{◌≡◌, ℕ, List, [], ◌∷◌, Option, Result}
use Rattle.std.specs.declared.alloc.AllocError.{AllocError}
use Rattle.journal_model.specs.Notification.{Text}
use Rattle.journal_model.specs.declared.call.Call.{Call}
use Rattle.journal_model.specs.declared.handler.Input.{Input}
use Rattle.journal_model.specs.declared.value.Value.{Value}
use Rattle.protocol_differences.specs.declared.relationship.CommandRelationship.{CommandRelationship}
use Rattle.protocol_errors.specs.declared.error.Error.{Error}
use Rattle.vm_feeding.specs.InputAnswer.{IsInputRead}
use Rattle.vm_feeding.specs.EphemeralStateReads.{IsGot, IsReadTaken}
use Rattle.vm_start.specs.Phases.{kept_error}
use Rattle.vm_feeding.specs.MachineQueries.{TakesOutput}
use Rattle.vm_feeding.specs.EndOfInput.{ClosesInput}
use Rattle.vm_feeding.specs.InputBytes.{IsFed}
use Rattle.vm_machine.specs.declared.machine_state.MachineState.{MachineState}
use Rattle.vm_feeding.specs.HostErrors.{IsErrorTold}
use Rattle.vm_progress.specs.AwaitEffects.{DoesAwait}
use Rattle.vm_progress.specs.EndEffects.{EndsAs}
use Rattle.vm_proposals.specs.RunCallEffects.{CallsRun}
use Rattle.vm_proposals.specs.ProposalEffects.{ProposesRun}
use Rattle.vm_refusals.specs.declared.retries.RetryPolicy.{RetryPolicy}
use Rattle.vm_refusals.specs.declared.runs.RunExitResult.{RunExitResult}
use Rattle.vm_refusals.specs.declared.runs.RunHandle.{RunHandle}
use Rattle.vm_types.specs.declared.answers.AwaitResponse.{AwaitResponse}
use Rattle.vm_types.specs.declared.handles.AwakeableHandle.{AwakeableHandle}
use Rattle.vm_types.specs.declared.handles.CallHandle.{CallHandle}
use Rattle.vm_types.specs.declared.handles.EphemeralCompletionId.{EphemeralCompletionId}
use Rattle.vm_types.specs.declared.handles.SendHandle.{SendHandle}
use Rattle.vm_core.specs.Calls as calls

-- what it is told and asked beside the calls of a handler; whatever is asked of a machine that is lent leaves it as it is
pub data HostCall : Type 0 where
  NotifyInput : (bytes : List ℕ) → HostCall
  NotifyInputClosed : HostCall
  NotifyError : Error → Option CommandRelationship → HostCall
  TakeOutput : HostCall
  SysInput : HostCall
  EphemeralStateGet : (key : Text) → HostCall
  TakeEphemeralNotification : EphemeralCompletionId → HostCall
  ProposeRunCompletion : (handle : ℕ) → RunExitResult → RetryPolicy → HostCall
  MakeCall : Call → HostCall

-- a call of a handler
abbrev pub MakesCall : Call → (old new : MachineState) → Type 0
MakesCall (Call.StateGet key name options) old new = (result : Result ℕ Error) × calls.SysStateGet key name options old result new
MakesCall (Call.StateGetKeys name) old new = (result : Result ℕ Error) × calls.SysStateGetKeys name old result new
MakesCall (Call.StateSet key value name options) old new = (result : Result (Unit {0}) Error) × calls.SysStateSet key value name options old result new
MakesCall (Call.StateClear key name) old new = (result : Result (Unit {0}) Error) × calls.SysStateClear key name old result new
MakesCall (Call.StateClearAll name) old new = (result : Result (Unit {0}) Error) × calls.SysStateClearAll name old result new
MakesCall (Call.Sleep name wake_up now) old new = (result : Result ℕ Error) × calls.SysSleep name wake_up now old result new
MakesCall (Call.Call target parameter name options) old new = (result : Result CallHandle Error) × calls.SysCall target parameter name options old result new
MakesCall (Call.Send target parameter execution_time name options) old new = (result : Result SendHandle Error) × calls.SysSend target parameter execution_time name options old result new
MakesCall Call.Awakeable old new = (result : Result AwakeableHandle Error) × calls.SysAwakeable old result new
MakesCall (Call.CompleteAwakeable id value options) old new = (result : Result (Unit {0}) Error) × calls.SysCompleteAwakeable id value options old result new
MakesCall (Call.Signal name) old new = (result : Result ℕ Error) × calls.CreateSignalHandle name old result new
MakesCall (Call.CompleteSignal target_id name value) old new = (result : Result (Unit {0}) Error) × calls.SysCompleteSignal target_id name value old result new
MakesCall (Call.GetPromise key) old new = (result : Result ℕ Error) × calls.SysGetPromise key old result new
MakesCall (Call.PeekPromise key) old new = (result : Result ℕ Error) × calls.SysPeekPromise key old result new
MakesCall (Call.CompletePromise key value options) old new = (result : Result ℕ Error) × calls.SysCompletePromise key value options old result new
MakesCall (Call.Run name) old new = (result : Result RunHandle Error) × CallsRun name old result new
MakesCall (Call.Cancel target_id) old new = (result : Result (Unit {0}) Error) × calls.SysCancelInvocation target_id old result new
MakesCall (Call.Attach target) old new = (result : Result ℕ Error) × calls.SysAttachInvocation target old result new
MakesCall (Call.GetOutput target) old new = (result : Result ℕ Error) × calls.SysGetInvocationOutput target old result new
MakesCall (Call.IsCompleted handle) old new = new ≡ old
MakesCall (Call.Take handle) old new = (result : Result (Option Value) Error) × calls.TakeNotification handle old result new
MakesCall (Call.Await tree) old new = (result : Result AwaitResponse Error) × DoesAwait tree old result new
MakesCall (Call.Output value options) old new = (result : Result (Unit {0}) Error) × calls.SysWriteOutput value options old result new
MakesCall Call.End old new = (result : Result (Unit {0}) Error) × EndsAs (kept_error old.phase) old result new

abbrev pub Does : HostCall → (old new : MachineState) → Type 0
Does (NotifyInput bytes) old new = IsFed bytes old new
Does NotifyInputClosed old new = ClosesInput old new
Does (NotifyError error relationship) old new = IsErrorTold error relationship old new
Does TakeOutput old new = (result : Result (List ℕ) AllocError) × TakesOutput old result new
Does SysInput old new = (result : Result Input Error) × IsInputRead old result new
Does (EphemeralStateGet key) old new = (result : Result EphemeralCompletionId Error) × IsGot key old result new
Does (TakeEphemeralNotification id) old new = (result : Result (Option Value) Error) × IsReadTaken id old result new
Does (ProposeRunCompletion handle exit policy) old new = (result : Result (Unit {0}) Error) × ProposesRun handle exit policy old result new
Does (MakeCall call) old new = MakesCall call old new

-- one behind the other, the last one first
abbrev pub DoesEach : List HostCall → (old new : MachineState) → Type 0
DoesEach [] old new = new ≡ old
DoesEach (call ∷ before) old new = (between : MachineState) × DoesEach before old between × Does call between new
