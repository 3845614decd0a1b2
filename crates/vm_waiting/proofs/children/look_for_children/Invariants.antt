use Rattle.std.proofs.Common.{length}
use Rattle.vm_awaits.specs.Views.{results_of}
use Rattle.vm_waiting.proofs.KnownChildren.{LooksOn}
use Rattle.vm_waiting.proofs.children.look_for_children.Given as goal

abbrev pub invariant-steps : goal.invariant-steps
invariant-steps l = LooksOn l.children (results_of l.fn.results) (results_of l.results)

abbrev pub decreases-steps : goal.decreases-steps
decreases-steps l = length (results_of l.results).queue
