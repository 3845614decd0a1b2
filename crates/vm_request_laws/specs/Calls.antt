-- What the types of the code say of a call: each text in it is UTF-8, each code of a failure has sixteen bits, and each number of
-- successes that an awaited tree asks for has 32, where the tree is nested no deeper than what is awaited may be.
use Rattle.std.specs.Prelude.{ℕ, ◌<◌, ◌≤◌, ◌^◌, IsUtf8, IfSome}
use Rattle.std.specs.List.{AllByRecursion}
use Rattle.journal_model.specs.Notification.{Text}
use Rattle.journal_model.specs.AwaitTree.{AwaitTree, Single, Combined, AwaitTrees, no_trees, and_trees, levels_of}
use Rattle.journal_model.specs.Spelling.{required_by}
use Rattle.journal_model.specs.declared.value.NonEmptyValue.{NonEmptyValue}
use Rattle.journal_model.specs.declared.value.TerminalFailure.{TerminalFailure}
use Rattle.journal_model.specs.declared.call.Call.{Call}
use Rattle.journal_model.specs.declared.call.Header.{Header}
use Rattle.journal_model.specs.declared.call.Target.{Target}
use Rattle.journal_model.specs.declared.call.AttachInvocationTarget.{AttachInvocationTarget}
use Rattle.journal_model.specs.declared.future.TheConstants.{AWAIT_LEVELS}

abbrev pub IsTypedPair : Text × Text → Type 0
IsTypedPair pair = IsUtf8 pair.0 × IsUtf8 pair.1

pub record IsTypedFailure (failure : TerminalFailure) : Type 0 where
  pub code : failure.code < 2 ^ 16
  pub message : IsUtf8 failure.message
  pub metadata : AllByRecursion IsTypedPair failure.metadata

abbrev pub IsTypedValue : NonEmptyValue → Type 0
IsTypedValue (NonEmptyValue.Success bytes) = Unit {0}
IsTypedValue (NonEmptyValue.Failure failure) = IsTypedFailure failure

abbrev pub IsTypedHeader : Header → Type 0
IsTypedHeader header = IsUtf8 header.key × IsUtf8 header.value

pub record IsTypedTarget (target : Target) : Type 0 where
  pub service : IsUtf8 target.service
  pub handler : IsUtf8 target.handler
  pub key : IfSome target.key IsUtf8
  pub idempotency_key : IfSome target.idempotency_key IsUtf8
  pub scope : IfSome target.scope IsUtf8
  pub limit_key : IfSome target.limit_key IsUtf8
  pub headers : AllByRecursion IsTypedHeader target.headers

abbrev pub IsTypedAttach : AttachInvocationTarget → Type 0
IsTypedAttach (AttachInvocationTarget.InvocationId id) = IsUtf8 id
IsTypedAttach (AttachInvocationTarget.WorkflowId name key scope) = IsUtf8 name × IsUtf8 key × IfSome scope IsUtf8
IsTypedAttach (AttachInvocationTarget.IdempotencyId service handler key service_key scope) =
    IsUtf8 service × IsUtf8 handler × IsUtf8 key × IfSome service_key IsUtf8 × IfSome scope IsUtf8

abbrev mutual
  pub NumbersFit : {Leaf : Type 0} → AwaitTree Leaf → Type 0
  NumbersFit (Single leaf) = Unit {0}
  NumbersFit (Combined combinator children) = (required_by combinator < 2 ^ 32) × AllNumbersFit children

  pub AllNumbersFit : {Leaf : Type 0} → AwaitTrees Leaf → Type 0
  AllNumbersFit no_trees = Unit {0}
  AllNumbersFit (and_trees tree trees) = NumbersFit tree × AllNumbersFit trees

abbrev pub IsTypedCall : Call → Type 0
IsTypedCall (Call.StateGet key name options) = IsUtf8 key × IfSome name IsUtf8
IsTypedCall (Call.StateGetKeys name) = IfSome name IsUtf8
IsTypedCall (Call.StateSet key value name options) = IsUtf8 key × IfSome name IsUtf8
IsTypedCall (Call.StateClear key name) = IsUtf8 key × IfSome name IsUtf8
IsTypedCall (Call.StateClearAll name) = IfSome name IsUtf8
IsTypedCall (Call.Sleep name wake_up now) = IsUtf8 name
IsTypedCall (Call.Call target parameter name options) = IsTypedTarget target × IfSome name IsUtf8
IsTypedCall (Call.Send target parameter execution_time name options) = IsTypedTarget target × IfSome name IsUtf8
IsTypedCall (Call.CompleteAwakeable id value options) = IsUtf8 id × IsTypedValue value
IsTypedCall (Call.Signal name) = IsUtf8 name
IsTypedCall (Call.CompleteSignal target name value) = IsUtf8 target × IsUtf8 name × IsTypedValue value
IsTypedCall (Call.GetPromise key) = IsUtf8 key
IsTypedCall (Call.PeekPromise key) = IsUtf8 key
IsTypedCall (Call.CompletePromise key value options) = IsUtf8 key × IsTypedValue value
IsTypedCall (Call.Run name) = IsUtf8 name
IsTypedCall (Call.Cancel target) = IsUtf8 target
IsTypedCall (Call.Attach target) = IsTypedAttach target
IsTypedCall (Call.GetOutput target) = IsTypedAttach target
IsTypedCall (Call.Output value options) = IsTypedValue value
IsTypedCall (Call.Await tree) = levels_of tree ≤ AWAIT_LEVELS → NumbersFit tree
IsTypedCall _ = Unit {0}
