-- So many children were taken from the top.
use Rattle.std.proofs.Common.{◌≡◌, ◌+◌, ◌++◌, length}
use Rattle.vm_c_values.specs.Nodes.{nodes_in_order, nodes_from_top}
use Rattle.vm_c_values.proofs.node.children.Given as goal

abbrev pub invariant-loop-taken : goal.invariant-loop-taken
invariant-loop-taken l = (length l.children ≡ l._taken) × (nodes_from_top l.fn.stack.items ≡ nodes_in_order l.children ++ nodes_from_top l.stack.items) × (length l.fn.stack.items ≡ l._taken + length l.stack.items)
