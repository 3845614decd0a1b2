use Rattle.std.proofs.Common.{length}
use Rattle.vm_awaits.specs.ReadyViews.{ready_in}
use Rattle.vm_awaits.proofs.Alone.{Alone}
use Rattle.vm_awaits.proofs.resolving.resolve_leaf.Given as goal

abbrev pub invariant-steps : goal.invariant-steps
invariant-steps l = Alone l.delivery l.slots l.handle l.fn.line (ready_in l.fn.ready) l.line (ready_in l.ready)

abbrev pub decreases-steps : goal.decreases-steps
decreases-steps l = length l.line
