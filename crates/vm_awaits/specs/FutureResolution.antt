-- What looking for an awaited future comes to.
use Rattle.std.specs.Prelude.{◌≡◌, ℕ, List, [], ◌++◌}
use Rattle.journal_model.specs.Notification.{Arrival}
use Rattle.journal_model.specs.AwaitTree.{AwaitTree}
use Rattle.journal_model.specs.Future.{tree_of}
use Rattle.journal_model.specs.declared.options.SignalDelivery.{SignalDelivery}
use Rattle.attempt_model.specs.Results.{Ready, Slots, Resolution, Awake, Asleep, resolution_of, ready_after_all}
use Rattle.vm_awaits.specs.declared.resolving.ResolveFutureResult.{ResolveFutureResult}
use Rattle.vm_awaits.specs.declared.resolving.ResolveFutureResult.TheVariants.{AnyCompleted, WaitExternalInput}

-- an answer as a resolution, with what is left in line and what waits to be taken then
abbrev pub resolution_as : List Arrival → Ready → ResolveFutureResult → Resolution
resolution_as queue ready AnyCompleted = Awake queue ready
resolution_as queue ready (WaitExternalInput future) = Asleep (tree_of future) ready

-- a future that waits has left nothing in line
abbrev pub line_left : List Arrival → ResolveFutureResult → List Arrival
line_left queue AnyCompleted = queue
line_left queue (WaitExternalInput future) = []

module _ (delivery : SignalDelivery) (slots : Slots) (tree : AwaitTree ℕ) (queue : List Arrival) (ready : Ready) where
  -- on the way to a tree's resolution: some of what stood in line was looked at, and what is left of the tree is resolved from
  -- the others as the tree was to be from all
  pub record OnTheWay (left : AwaitTree ℕ) (others : List Arrival) (waiting : Ready) : Type 0 where
    pub looked : List Arrival
    pub queue_is : queue ≡ looked ++ others
    pub ready_is : waiting ≡ ready_after_all delivery ready looked
    pub same : resolution_of delivery slots left others waiting ≡ resolution_of delivery slots tree queue ready

  -- it stops on the way, as for want of memory
  abbrev pub StopsMidway : List Arrival → Ready → Type 0
  StopsMidway others waiting = (left : AwaitTree ℕ) × OnTheWay left others waiting
