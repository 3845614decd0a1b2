use Rattle.std.proofs.Common.{refl, sym, ap, ◌∙◌, ◌-◌, arith, None, get_or}
use Rattle.vm_flat_trees.specs.declared.node.FlatNode.{FlatNode}
use Rattle.vm_flat_trees.specs.declared.node.Kind.TheVariants as kinds
use Rattle.vm_flat_trees.specs.Counts.{no_counts}
use Rattle.vm_flat_trees.specs.Flat.{pending_before}
use Rattle.vm_flat_trees.proofs.Front.{goes-back}
use Rattle.vm_flat_trees.proofs.left.read_pending.Goals as goal

abbrev nothing : FlatNode
nothing = record { kind = kinds.Leaf 0; parent = None; counts = no_counts }

pub loop-place-preserved : goal.loop-place-preserved
loop-place-preserved c = (
  c.in_ok-put_before.ensures ∙ ap (pending_before (get_or c.args.nodes.now (c.loop-place.place - 1) nothing)) c.loop-place.invariant.0
      ∙ sym (goes-back c.args.nodes.now c.loop-place.place (get_or c.args.nodes.now (c.loop-place.place - 1) nothing) nothing c.loop-place-test.true c.loop-place.invariant.1 refl),
  omega (arith, c.loop-place.invariant.1),
)
