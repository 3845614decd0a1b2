use Rattle.std.proofs.Common.{refl, ap, ◌∙◌, ◌<◌, arith, length, None, get_or}
use Rattle.vm_flat_trees.specs.declared.node.FlatNode.{FlatNode}
use Rattle.vm_flat_trees.specs.declared.node.Kind.TheVariants as kinds
use Rattle.vm_flat_trees.specs.Counts.{no_counts}
use Rattle.vm_flat_trees.proofs.Finding.{where-all}
use Rattle.vm_flat_trees.specs.NotificationRecipients.{waits_for}
use Rattle.vm_awaits.specs.Ids.{Places, leaves_in}
use Rattle.vm_awaits.proofs.Leaves.{node-next}
use Rattle.vm_awaits.proofs.flat.leaves_of.Goals as goal

abbrev nothing : FlatNode
nothing = record { kind = kinds.Leaf 0; parent = None; counts = no_counts }

pub loop-place-preserved : goal.loop-place-preserved
loop-place-preserved c = λ id.
    let within : c.loop-place.place < length c.args.nodes.now = omega (arith, c.loop-place-test.true) in
    node-next c.args.slots.now id c.args.nodes.now c.loop-place.place (get_or c.args.nodes.now c.loop-place.place nothing) nothing (leaves_in c.loop-place.leaves) (leaves_in c.add_node.new.leaves id)
    within refl (c.loop-place.invariant id) (c.in_ok-add_node.ensures id)

pub loop-place-init : goal.loop-place-init
loop-place-init c = λ id. ap (λ (places : Places). places id) c.new-leaves.ensures

pub returns : goal.returns
returns c = λ id. c.loop-place.invariant id ∙ where-all (waits_for c.args.slots.now id) c.args.nodes.now c.loop-place.place (omega (arith, c.loop-place-test.false))
