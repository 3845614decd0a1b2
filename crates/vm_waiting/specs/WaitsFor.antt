-- What an await that stays asleep waits for, as ids.
use Rattle.std.specs.Prelude.{Bool, true}
use Rattle.journal_model.specs.declared.notification.NotificationId.{NotificationId}
use Rattle.journal_model.specs.declared.notification.NotificationId.TheVariants.{CompletionId}
use Rattle.journal_model.specs.AwaitTree.{AwaitTree, Single}
use Rattle.journal_model.specs.Future.{tree_of}
use Rattle.journal_model.specs.PrunedTrees.{only_leaves}
use Rattle.attempt_model.specs.Machine.{Machine, Reply, AwaitsTree, AwaitsChild}
use Rattle.attempt_model.specs.Results.{Slots, slot_of}
use Rattle.vm_awaits.specs.Views.{slots_of}
use Rattle.vm_calls.specs.declared.active.Active.{Active}
use Rattle.vm_waiting.specs.SuspensionFrames.{holds_a_leaf}
use Rattle.vm_waiting.specs.declared.waits_for.WaitsFor.{WaitsFor}
use Rattle.vm_waiting.specs.declared.waits_for.WaitsFor.TheVariants.{Future, Child}

-- a handle that stands for nothing is left out; of a child it is the completion that brings its invocation id
abbrev pub ids_over : Slots → WaitsFor → AwaitTree NotificationId
ids_over slots (Future left) = only_leaves (slot_of slots) (tree_of left)
ids_over slots (Child completion) = Single (CompletionId completion)

abbrev pub awaited_ids : Active → WaitsFor → AwaitTree NotificationId
awaited_ids active waits = ids_over (slots_of active.results) waits

-- whether there is anything in it: a future without handles waits for reads alone of which nothing is recorded
abbrev pub waits_for_any : WaitsFor → Bool
waits_for_any (Future left) = holds_a_leaf (tree_of left)
waits_for_any (Child completion) = true

-- the abstract machine waits for the same
abbrev pub waits_as : WaitsFor → Machine → Reply
waits_as (Future left) machine = AwaitsTree (tree_of left) machine
waits_as (Child completion) machine = AwaitsChild completion machine
