-- What a call has come to, of what the machine has answered.
use Rattle.std.proofs.Common.{◌≡◌, sym, ◌∙◌, ℕ, ◌*◌, true≢false, false, IsTrue, List, Option, Result, Ok, Err}
use Rattle.std.specs.Duration.{as_nanos}
use Rattle.std.specs.declared.time.Duration.{Duration}
use Rattle.journal_model.specs.Future.{tree_of}
use Rattle.journal_model.specs.Notification.{Bytes, Text}
use Rattle.journal_model.specs.declared.future.UnresolvedFuture.{UnresolvedFuture}
use Rattle.journal_model.specs.declared.value.Value.{Value}
use Rattle.protocol_errors.specs.Error.{plain_error}
use Rattle.protocol_errors.specs.declared.error.Error.{Error}
use Rattle.vm_proposals.specs.ProposalEffects.{ProposesRun}
use Rattle.vm_refusals.specs.declared.retries.RetryPolicy.{RetryPolicy}
use Rattle.vm_refusals.specs.declared.runs.RunExitResult.TheVariants.{RetryableFailure}
use Rattle.vm_progress.specs.AwaitEffects.{DoesAwait}
use Rattle.vm_machine.specs.declared.machine_state.MachineState.{MachineState}
use Rattle.vm_types.specs.declared.answers.AwaitResponse.{AwaitResponse}
use Rattle.vm_c_values.specs.Arguments.{is_policy}
use Rattle.vm_c_values.specs.Nodes.{nodes_of}
use Rattle.vm_c_values.specs.Policies.{IsPolicy}
use Rattle.vm_c_values.specs.declared.node.Node.{Node}
use Rattle.vm_c_values.specs.declared.not_done.NotDone.{NotDone}
use Rattle.vm_c_values.specs.declared.not_done.NotDone.TheVariants.{Unread, Failed, Untold}
use Rattle.vm_c_values.specs.declared.policy.Policy.{Policy}
use Rattle.vm_c_machine.specs.Calls.{DoesCall, Given, Keeps, ProposesRetry, Tells, Takes}
use Rattle.vm_c_machine.specs.Numbers.{AwaitsNodes, TellsResponse}
use Rattle.vm_c_machine.specs.declared.machine.Machine.{Machine}

-- the tree of a future is awaited, and its nodes are these
pub awaited : (nodes : List Node) (future : UnresolvedFuture) (outcome detail : ℕ) (old : MachineState) (made : Result AwaitResponse Error) (told : Result (Unit {0}) Error) (new : MachineState)
    → nodes_of (tree_of future) ≡ nodes → TellsResponse outcome detail made told → DoesAwait (tree_of future) old made new → AwaitsNodes nodes outcome detail old told new
awaited nodes future outcome detail old made told new are tells awaits = record { tree = tree_of future; response = made; nodes_are = are; told = tells; awaits = awaits }

-- what was taken is told, or lost
pub takes_told : (Call : MachineState → Result (Option Value) Error → MachineState → Type 0) (taken : Option Value) (kind : ℕ) (old new : Machine) (done : Result Bytes NotDone)
    → Call old.vm.state (Ok taken) new.vm.state → Keeps old new → Tells taken kind done → Takes Call kind old done new
takes_told Call taken kind old new (Ok reply) takes kept tells = record { taken = taken; takes = takes; kept = kept; kind_is = tells.0; bytes = tells.1 }
takes_told Call taken kind old new (Err Untold) takes kept tells = record { taken = taken; takes = takes; kept = kept }
takes_told Call taken kind old new (Err (Unread why)) takes kept tells = absurd tells
takes_told Call taken kind old new (Err (Failed is_suspended)) takes kept tells = absurd tells

-- ---- the arguments were read, and the call is done

pub given_call : {A : Type 0} (AreWellFormed : Type 0) (Call : MachineState → Result A Error → MachineState → Type 0) (told : A) (old : Machine) (done : Result Bytes NotDone) (new : Machine)
    → AreWellFormed → DoesCall Call told old done new → Given AreWellFormed (DoesCall Call told) old done new
given_call AreWellFormed Call told old (Ok reply) new are does = (are, does)
given_call AreWellFormed Call told old (Err (Failed is_suspended)) new are does = (are, does)
given_call AreWellFormed Call told old (Err (Unread why)) new are does = absurd does
given_call AreWellFormed Call told old (Err Untold) new are does = absurd does

pub given_retry : (AreWellFormed : Type 0) (notification attempt_millis code : ℕ) (message : Text) (policy : Policy) (old : Machine) (done : Result Bytes NotDone) (new : Machine)
    → (retry : RetryPolicy) (attempt : Duration) → AreWellFormed → IsPolicy policy retry → as_nanos attempt ≡ attempt_millis * 1_000_000
    → DoesCall (ProposesRun notification (RetryableFailure attempt (plain_error code message)) retry) tt old done new
    → Given AreWellFormed (ProposesRetry notification attempt_millis code message policy) old done new
given_retry AreWellFormed notification attempt_millis code message policy old (Ok reply) new retry attempt are policy_is took proposes =
    (are, record { retry = retry; attempt = attempt; policy_is = policy_is; took = took; proposes = proposes })
given_retry AreWellFormed notification attempt_millis code message policy old (Err (Failed is_suspended)) new retry attempt are policy_is took proposes =
    (are, record { retry = retry; attempt = attempt; policy_is = policy_is; took = took; proposes = proposes })
given_retry AreWellFormed notification attempt_millis code message policy old (Err (Unread why)) new retry attempt are policy_is took proposes = absurd proposes
given_retry AreWellFormed notification attempt_millis code message policy old (Err Untold) new retry attempt are policy_is took proposes = absurd proposes

-- a policy that is none is not read
pub no_policy : (policy : Policy) (Second : Type 0) → false ≡ is_policy policy → IsTrue (is_policy policy) × Second → ⊥
no_policy policy Second none all = true≢false (sym all.0 ∙ sym none)
