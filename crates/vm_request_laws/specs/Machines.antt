-- What a machine's handles stand for can be told, from its first call on.
use Rattle.std.specs.Prelude.{◌+◌, ◌≤◌, ◌^◌, ℕ, Bool, List}
use Rattle.std.specs.List.{AllByRecursion}
use Rattle.journal_model.specs.declared.call.Call.{Call}
use Rattle.journal_model.specs.AwaitTree.{AwaitTree}
use Rattle.journal_model.specs.History.{completions_of, signals_of}
use Rattle.journal_model.specs.Notification.{Arrival}
use Rattle.journal_model.specs.Request.{Request}
use Rattle.journal_model.specs.Run.{Handler, Invocation}
use Rattle.journal_model.specs.PrunedTrees.{only_leaves}
use Rattle.attempt_model.specs.Results.{slot_of}
use Rattle.attempt_model.specs.Machine.{Machine, Reply, Answered, AwaitsTree, AwaitsChild, Finished, FailedBy, reply_to}
use Rattle.attempt_model.specs.Simulation.{Stands}
use Rattle.vm_request_laws.specs.Calls.{NumbersFit, IsTypedCall}
use Rattle.vm_request_laws.specs.Trees.{LeavesFit, SlotsFit}

-- ---- one call

-- its texts are text, and the ids that its handles stand for are left
pub record HasIds (m : Machine) (call : Call) : Type 0 where
  pub typed : IsTypedCall call
  pub completions : m.completions + completions_of call ≤ 2 ^ 32
  pub signals : m.signals + signals_of call ≤ 2 ^ 32

-- of the machine behind the call, where that does not fail
abbrev pub LeavesMachine : (Machine → Type 0) → Reply → Type 0
LeavesMachine P (Answered answer after) = P after
LeavesMachine P (AwaitsTree left after) = P after
LeavesMachine P (AwaitsChild child after) = P after
LeavesMachine P (Finished after) = P after
LeavesMachine P (FailedBy fault) = Unit {0}

abbrev pub CallsLeaveFitting : Type 0
CallsLeaveFitting = (same_header : Call → Request → Request → Bool) (given : Invocation) (m : Machine) (call : Call) → HasIds m call → SlotsFit m.slots
    → LeavesMachine (λ after. SlotsFit after.slots) (reply_to same_header given m call)

-- ---- all calls of a run

-- the machine stands in a run whose calls are typed, and no more ids than there are were taken
pub record StandsTyped (handler : Handler) (given : Invocation) (journal : List Request) (arrivals : List Arrival) (calls : ℕ) (m : Machine) : Type 0 where
  pub stands : Stands handler given journal arrivals calls m
  pub typed : AllByRecursion (λ step. IsTypedCall step.call) stands.steps
  pub completions : m.completions ≤ 2 ^ 32
  pub signals : m.signals ≤ 2 ^ 32

abbrev pub MachinesStandFitting : Type 0
MachinesStandFitting = (handler : Handler) (given : Invocation) (journal : List Request) (arrivals : List Arrival) (calls : ℕ) (m : Machine)
    → StandsTyped handler given journal arrivals calls m → SlotsFit m.slots

-- so the leaves of each tree over its handles fit, whose numbers do
abbrev pub TreesStandFitting : Type 0
TreesStandFitting = (handler : Handler) (given : Invocation) (journal : List Request) (arrivals : List Arrival) (calls : ℕ) (m : Machine) (tree : AwaitTree ℕ)
    → StandsTyped handler given journal arrivals calls m → NumbersFit tree → LeavesFit (only_leaves (slot_of m.slots) tree)

pub record MachinesFit : Type 0 where
  pub calls : CallsLeaveFitting
  pub machines : MachinesStandFitting
  pub trees : TreesStandFitting
