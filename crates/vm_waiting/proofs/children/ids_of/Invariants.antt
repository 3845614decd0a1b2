use Rattle.vm_awaits.specs.Views.{ready_of}
use Rattle.vm_waiting.proofs.KnownChildren.{IdsFrom}
use Rattle.vm_waiting.proofs.children.ids_of.Given as goal

abbrev pub invariant-loop-place : goal.invariant-loop-place
invariant-loop-place l = IdsFrom (ready_of l.results) l.children l.place l.ids.items
