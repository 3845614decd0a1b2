-- What calls make fits the records.
use Rattle.std.specs.Prelude.{◌≡◌, ◌<◌, ◌≤◌, ◌+◌, ◌^◌, ℕ, IsUtf8, List, length, Option, Some, None}
use Rattle.std.specs.List.{AllByRecursion}
use Rattle.journal_model.specs.Notification.{Arrival}
use Rattle.journal_model.specs.declared.call.Call.{Call}
use Rattle.journal_model.specs.declared.value.Value.{Value}
use Rattle.journal_model.specs.Request.{Request}
use Rattle.journal_model.specs.Refusal.{refusal_of}
use Rattle.journal_model.specs.declared.options.RunOptions.{RunOptions}
use Rattle.journal_model.specs.State.{StartState}
use Rattle.journal_model.specs.Spelling.{request_payload}
use Rattle.journal_model.specs.History.{Step, completions_of, next_completion}
use Rattle.journal_model.specs.Await.{child_result, cancel_requests}
use Rattle.journal_model.specs.Run.{Invocation, requests_to}
use Rattle.attempt_model.specs.Requests.{Commands, requests_by}
use Rattle.attempt_model.specs.Results.{Ready}
use Rattle.attempt_model.specs.Children.{Child, child_value, cancel_requests_for}
use Rattle.vm_request_laws.specs.RequestBounds.{RequestFits}
use Rattle.vm_request_laws.specs.Calls.{IsTypedCall}

-- it fits, where the length of its payload is one that a header tells
abbrev pub FitsWhereShort : Request → Type 0
FitsWhereShort request = length (request_payload request) < 2 ^ 32 → RequestFits request

-- the call is not refused, and the completion ids that it takes from this one on are left
pub record MayBeMade (version completion : ℕ) (call : Call) : Type 0 where
  pub typed : IsTypedCall call
  pub allowed : refusal_of version call ≡ None
  pub ids : completion + completions_of call ≤ 2 ^ 32

-- a child's invocation id is text
abbrev pub IsTextId : Option Value → Type 0
IsTextId (Some (Value.InvocationId id)) = IsUtf8 id
IsTextId _ = Unit {0}

-- the requests of a run's call, and those of its cancellation
abbrev pub RunsMakeFit : Type 0
RunsMakeFit = (given : Invocation) (steps : List Step) (call : Call) → MayBeMade given.version (next_completion steps) call → AllByRecursion FitsWhereShort (requests_to given steps call)

abbrev pub RunsCancelFit : Type 0
RunsCancelFit = (options : RunOptions) (steps : List Step) (arrivals : List Arrival) (place : ℕ) (children : List ℕ)
    → AllByRecursion (λ n. IsTextId (child_result options steps arrivals place n)) children → AllByRecursion FitsWhereShort (cancel_requests options steps arrivals place children)

-- the same of a machine
abbrev pub MachinesMakeFit : Type 0
MachinesMakeFit = (version : ℕ) (start : StartState) (done : List Request) (left : Commands) (n : ℕ) (call : Call) → MayBeMade version n call
    → AllByRecursion FitsWhereShort (requests_by start done left n call)

abbrev pub MachinesCancelFit : Type 0
MachinesCancelFit = (ready : Ready) (children : List Child) → AllByRecursion (λ child. IsTextId (child_value ready child)) children
    → AllByRecursion FitsWhereShort (cancel_requests_for ready children)

pub record CallsMakeFit : Type 0 where
  pub runs : RunsMakeFit
  pub runs_cancel : RunsCancelFit
  pub machines : MachinesMakeFit
  pub machines_cancel : MachinesCancelFit
