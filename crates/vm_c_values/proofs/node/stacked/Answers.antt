use Rattle.vm_c_values.specs.Arguments.{IsTree}
use Rattle.vm_c_values.proofs.Counting.{not_read, unread_behind}
use Rattle.vm_c_values.proofs.Stacking.{reads_one}
use Rattle.vm_c_values.proofs.node.stacked.Goals as goal

pub loop-split-preserved : goal.loop-split-preserved
loop-split-preserved c =
    reads_one c.args.nodes.now c.loop-split.rest.now c.in-Some.split.1.now c.in-Some.split.0.now c.loop-split.stack.items c.rooted.new.stack.items c.put.new.stack.items c.in_ok-tree.tree
    c.loop-split.invariant c.in-Some.ensures.cases.0 c.in_ok-tree.ensures.nodes c.in_ok-put.ensures.ok

pub returns-in_err-tree-clause-unread : goal.returns-in_err-tree-clause-unread
returns-in_err-tree-clause-unread c =
    not_read (IsTree c.args.nodes.now) c.from_residual.result c.in_err-tree.field-0.0 c.from_residual.ensures.1
    (unread_behind c.args.nodes.now c.loop-split.rest.now c.in-Some.split.1.now c.in-Some.split.0.now c.loop-split.stack.items c.in_err-tree.field-0.0
    c.loop-split.invariant c.in-Some.ensures.cases.0 c.in_err-tree.ensures.unread)
