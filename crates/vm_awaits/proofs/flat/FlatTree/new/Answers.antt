use Rattle.std.proofs.Common.{ap, ◌∙◌, None}
use Rattle.journal_model.specs.Future.{tree_of}
use Rattle.attempt_model.specs.Results.{handle_state}
use Rattle.vm_awaits.specs.ReadyViews.{ready_in}
use Rattle.vm_flat_trees.specs.Flat.{is_awake_flat}
use Rattle.vm_flat_trees.proofs.Reckoning.{tree-awake}
use Rattle.vm_flat_trees.proofs.Awaiting.{over-flat}
use Rattle.vm_awaits.proofs.flat.FlatTree.new.Goals as goal

pub returns : goal.returns
returns c =
    let leaves = handle_state c.args.slots.now (ready_in c.args.ready.now) in
    over-flat c.args.slots.now leaves (tree_of c.args.future.now) c.in_ok-nodes.nodes.items c.is_awake_now-is_awake.result
    (c.is_awake_now-is_awake.ensures ∙ ap is_awake_flat (c.as_slice.ensures.value ∙ c.in_ok-nodes.ensures) ∙ tree-awake (λ handle. handle) leaves 0 None (tree_of c.args.future.now))
    (λ asleep. c.in_ok-nodes.ensures)

pub invariant_of-result : goal.invariant_of-result
invariant_of-result c =
    let leaves = handle_state c.args.slots.now (ready_in c.args.ready.now) in
    record {
      tree = tree_of c.args.future.now;
      leaves = leaves;
      awaits = record {
        awake_is = c.is_awake_now-is_awake.ensures ∙ ap is_awake_flat (c.as_slice.ensures.value ∙ c.in_ok-nodes.ensures) ∙ tree-awake (λ handle. handle) leaves 0 None (tree_of c.args.future.now);
        nodes_are = λ asleep. c.in_ok-nodes.ensures;
        places_are = λ found is id. cc;
      };
    }
