-- What is told of a tree that stays asleep, in the words of the run.
use Rattle.std.specs.Prelude.{◌≡◌, ℕ, List}
use Rattle.journal_model.specs.Notification.{Arrival}
use Rattle.journal_model.specs.AwaitTree.{AwaitTree}
use Rattle.journal_model.specs.PrunedTrees.{still_awaited}
use Rattle.journal_model.specs.Request.{Request}
use Rattle.journal_model.specs.Run.{Handler, Invocation, run}
use Rattle.attempt_model.specs.Machine.{Machine}
use Rattle.attempt_model.specs.Simulation.{WaitsWithRun}
use Rattle.vm_calls.specs.declared.active.Active.{Active}
use Rattle.vm_calls.specs.Active.{Sees}
use Rattle.vm_waiting.specs.SuspensionFrames.{over_ids}

-- Where the abstract machine stands to a run that waits with a tree, the ids that this tree is told as are what the run still waits for.
abbrev pub WaitsTellAsRun : Type 0
WaitsTellAsRun = (tree : AwaitTree ℕ) (active : Active) (handler : Handler) (given : Invocation) (journal : List Request) (arrivals : List Arrival) (calls : ℕ) (m : Machine)
    → Sees given active m → (waits : WaitsWithRun handler given journal arrivals calls tree m)
    → over_ids active tree ≡ still_awaited given.options (run handler given arrivals calls).steps arrivals waits.ids
