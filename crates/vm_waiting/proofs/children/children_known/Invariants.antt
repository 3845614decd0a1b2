use Rattle.vm_awaits.specs.Views.{ready_of}
use Rattle.vm_waiting.proofs.KnownChildren.{StateFrom}
use Rattle.vm_waiting.proofs.children.children_known.Given as goal

abbrev pub invariant-loop-place : goal.invariant-loop-place
invariant-loop-place l = StateFrom (ready_of l.results) l.children l.place
