use Rattle.std.proofs.Common.{◌≡◌, take, drop}
use Rattle.vm_flat_trees.proofs.left.take_first.Given as goal

abbrev pub invariant-loop-i : goal.invariant-loop-i
invariant-loop-i l = (l.taken ≡ take l._i l.fn.futures.items) × (l.futures.items ≡ drop l._i l.fn.futures.items)
