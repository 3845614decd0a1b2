use Rattle.std.proofs.Common.{refl, sym, ◌∙◌, arith, None}
use Rattle.vm_flat_trees.specs.declared.node.FlatNode.{FlatNode}
use Rattle.vm_flat_trees.specs.declared.node.Kind.TheVariants as kinds
use Rattle.vm_flat_trees.specs.NotificationRecipients.{waits_for}
use Rattle.vm_flat_trees.specs.Counts.{state_meant, no_counts}
use Rattle.vm_awaits.proofs.Passing.{begins-pass, sleeps-here, leaf-here, fits-here, goes-by, goes-on, wakes-here, all-passed}
use Rattle.vm_awaits.proofs.telling.tell_in_passing.Goals as goal
use Rattle.vm_awaits.proofs.telling.tell_in_passing.Goals.{then-is_for+else-told, else-is_for}

abbrev nothing : FlatNode
nothing = record { kind = kinds.Leaf 0; parent = None; counts = no_counts }

pub loop-place-init : goal.loop-place-init
loop-place-init c = λ done. begins-pass (waits_for c.args.slots.now c.args.id.now) c.args.nodes.now (state_meant c.args.state) done c.requires.hears

pub tell-told-requires-clause-sleeps : goal.tell-told-requires-clause-sleeps
tell-told-requires-clause-sleeps c =
    sleeps-here (waits_for c.args.slots.now c.args.id.now) c.args.nodes.now (state_meant c.args.state) c.requires.state c.requires.hears c.loop-place.place c.loop-place.nodes c.loop-place.visits (c.loop-place.invariant c.requires.state)

pub tell-told-requires-clause-leaf : goal.tell-told-requires-clause-leaf
tell-told-requires-clause-leaf c =
    leaf-here (waits_for c.args.slots.now c.args.id.now) c.args.nodes.now (state_meant c.args.state) c.requires.state c.requires.hears c.loop-place.place c.loop-place.nodes c.loop-place.visits nothing
    (c.loop-place.invariant c.requires.state) (omega (arith, c.loop-place-test.true)) (sym c.is_for.ensures ∙ c.if-is_for.true)

pub overflow_add-visits : goal.overflow_add-visits
overflow_add-visits c =
    let sum = fits-here (waits_for c.args.slots.now c.args.id.now) c.args.nodes.now (state_meant c.args.state) c.requires.state c.requires.hears c.loop-place.place c.loop-place.nodes c.loop-place.visits nothing
    (c.loop-place.invariant c.requires.state) (omega (arith, c.loop-place-test.true)) (sym c.is_for.ensures ∙ c.if-is_for.true)
    c.tell-told.new.nodes c.tell-told.result.is_awake c.tell-told.result.visits c.tell-told.ensures (omega (arith, c.loop-place-test.true)) in
    omega (arith, sum)

pub returns-then-told : goal.returns-then-told
returns-then-told c =
    wakes-here (waits_for c.args.slots.now c.args.id.now) c.args.nodes.now (state_meant c.args.state) c.requires.state c.requires.hears c.loop-place.place c.loop-place.nodes c.loop-place.visits nothing
    (c.loop-place.invariant c.requires.state) (omega (arith, c.loop-place-test.true)) (sym c.is_for.ensures ∙ c.if-is_for.true)
    c.tell-told.new.nodes c.tell-told.result.is_awake c.tell-told.result.visits c.tell-told.ensures c.if-told.true

pub loop-place-preserved : goal.loop-place-preserved
loop-place-preserved c = λ done.
    elim c.if-is_for.branch [
      | then-is_for+else-told w ↦
          rw (w.nodes-is, w.visits-is) (goes-on (waits_for c.args.slots.now c.args.id.now) c.args.nodes.now (state_meant c.args.state) done c.requires.hears c.loop-place.place c.loop-place.nodes c.loop-place.visits nothing
          (c.loop-place.invariant done) (omega (arith, c.loop-place-test.true)) (sym c.is_for.ensures ∙ w.if-is_for.true)
          w.tell-told.new.nodes w.tell-told.result.is_awake w.tell-told.result.visits w.tell-told.ensures _ (omega (arith, c.loop-place-test.true)) w.if-told.false refl)
      | else-is_for w ↦
          rw (w.nodes-is, w.visits-is) (goes-by (waits_for c.args.slots.now c.args.id.now) c.args.nodes.now (state_meant c.args.state) done c.requires.hears c.loop-place.place _ c.loop-place.nodes c.loop-place.visits nothing
          (c.loop-place.invariant done) (omega (arith, c.loop-place-test.true)) (sym c.is_for.ensures ∙ w.if-is_for.false) refl)
    ]

pub returns : goal.returns
returns c =
    all-passed (waits_for c.args.slots.now c.args.id.now) c.args.nodes.now (state_meant c.args.state) c.requires.state c.requires.hears c.loop-place.place c.loop-place.nodes c.loop-place.visits
    (c.loop-place.invariant c.requires.state) (omega (arith, c.loop-place-test.false))
