use Rattle.std.proofs.Common.{length}
use Rattle.journal_model.specs.Future.{tree_of}
use Rattle.vm_awaits.specs.ReadyViews.{ready_in}
use Rattle.vm_awaits.proofs.Going.{Going}
use Rattle.vm_awaits.proofs.resolving.resolve_tree.Given as goal

abbrev pub invariant-steps : goal.invariant-steps
invariant-steps l = Going l.delivery l.slots (tree_of l.fn.future) l.fn.line (ready_in l.fn.ready) l.flat l.line (ready_in l.ready)

abbrev pub decreases-steps : goal.decreases-steps
decreases-steps l = length l.line
