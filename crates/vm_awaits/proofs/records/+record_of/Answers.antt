use Rattle.std.proofs.Common.{ap, ◌∙◌, ℕ, arith, length, map}
use Rattle.journal_model.specs.Future.{tree_of, trees_from}
use Rattle.journal_model.specs.PrunedTrees.{asking_of}
use Rattle.protocol_stream.specs.Records.{future_node}
use Rattle.attempt_model.specs.Results.{slot_of}
use Rattle.vm_awaits.specs.Records.{no_node}
use Rattle.vm_awaits.specs.Trees.{combinator_meant}
use Rattle.vm_awaits.proofs.Futures.{child_is_smaller}
use Rattle.vm_awaits.proofs.Gathering.{with_futures, all_gathered, leaf_gathered, node_gathered, node_recorded}
use Rattle.vm_awaits.proofs.records.+record_of.Goals as goal
use Rattle.vm_awaits.proofs.records.+record_of.Goals.{in-Leaf-open+in_ok-push_leaf-in-Leaf-open, in-Node-open+in_ok-record_of-in-Node-open+in_ok-push_nested-in-Node-open}

pub record_of-requires : goal.record_of-requires
record_of-requires t c =
    let smaller = child_is_smaller (combinator_meant c.in-Node.combinator) c.args.future.now c.in-Node.children.now c.loop-child.child-index c.child-item.result c.in-Node.ensures c.loop-child-test.true c.child-item.is in
    (omega (arith, smaller, c.decreases), tt)

pub loop-child-preserved : goal.loop-child-preserved
loop-child-preserved t c =
    elim c.match-open-2.branch [
      | in-Leaf-open+in_ok-push_leaf-in-Leaf-open w ↦
          leaf_gathered (slot_of c.args.slots.now) c.loop-child.parts c.match-open-2.parts (with_futures (slot_of c.args.slots.now) no_node c.in-Node.children.now) _ c.in-Node.children.now c.loop-child.child-index c.child-item.result
          c.loop-child-test.true c.child-item.is w.in-Leaf-open.ensures (w.parts-is ∙ w.in_ok-push_leaf-in-Leaf-open.ensures) c.loop-child.invariant
      | in-Node-open+in_ok-record_of-in-Node-open+in_ok-push_nested-in-Node-open w ↦
          node_gathered (slot_of c.args.slots.now) c.loop-child.parts c.match-open-2.parts (with_futures (slot_of c.args.slots.now) no_node c.in-Node.children.now) (combinator_meant w.in-Node-open.field-0)
          (trees_from (map tree_of w.in-Node-open.field-1.now)) w.in_ok-record_of-in-Node-open.field-0 c.in-Node.children.now c.loop-child.child-index c.child-item.result
          c.loop-child-test.true c.child-item.is w.in-Node-open.ensures w.in_ok-record_of-in-Node-open.ensures (w.parts-is ∙ w.in_ok-push_nested-in-Node-open.ensures) c.loop-child.invariant
    ]

pub returns-after-loop-child : goal.returns-after-loop-child
returns-after-loop-child t c =
    let parts = c.loop-child.parts in
    let gathered = all_gathered (slot_of c.args.slots.now) parts c.in-Node.children.now c.loop-child.child-index (omega (arith, c.loop-child-test.false)) c.loop-child.invariant in
    let asks = c.asking_of-asking.ensures ∙ ap (λ (left : ℕ). asking_of (combinator_meant c.in-Node.combinator) (length c.in-Node.children.now) left) c.count.ensures in
    c.into_future-in-Node.ensures
    ∙ (λ i. future_node parts.completions parts.signals parts.names parts.nested (c.record_combinator.ensures i) (c.required_by.ensures i))
    ∙ node_recorded (slot_of c.args.slots.now) (combinator_meant c.in-Node.combinator) (combinator_meant c.asking_of-asking.result) c.args.future.now c.in-Node.children.now parts c.in-Node.ensures gathered asks
