-- What is left of the nodes stands before those of the trees that were read.
use Rattle.std.proofs.Common.{◌≡◌, ◌++◌, length}
use Rattle.vm_c_values.specs.Nodes.{nodes_from_top}
use Rattle.vm_c_values.proofs.node.stacked.Given as goal

abbrev pub invariant-loop-split : goal.invariant-loop-split
invariant-loop-split l = l.rest ++ nodes_from_top l.stack.items ≡ l.fn.nodes

abbrev pub decreases-loop-split : goal.decreases-loop-split
decreases-loop-split l = length l.rest
