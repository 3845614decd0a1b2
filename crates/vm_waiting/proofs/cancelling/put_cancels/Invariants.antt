use Rattle.std.proofs.Common.{◌≡◌, length}
use Rattle.std.specs.Vec.Iter.{into_iter_items, into_iter_len}
use Rattle.vm_waiting.proofs.PuttingAll.{PutsOn}
use Rattle.vm_waiting.proofs.cancelling.put_cancels.Given as goal

abbrev pub invariant-loop-id : goal.invariant-loop-id
invariant-loop-id l = (into_iter_len l.id-iterator ≡ length (into_iter_items l.id-iterator)) × PutsOn l.checks_off l.fn.ids.items (into_iter_items l.id-iterator) l.fn.active l.active
