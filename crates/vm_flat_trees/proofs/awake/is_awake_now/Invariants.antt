use Rattle.std.proofs.Common.{◌≡◌, false, take}
use Rattle.std.specs.List.{list_any}
use Rattle.vm_flat_trees.specs.Flat.{has_ended}
use Rattle.vm_flat_trees.proofs.awake.is_awake_now.Given as goal

abbrev pub invariant-loop-node : goal.invariant-loop-node
invariant-loop-node l = list_any has_ended (take l.node-index l.nodes) ≡ false
