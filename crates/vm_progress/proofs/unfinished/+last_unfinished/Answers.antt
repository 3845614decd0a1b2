use Rattle.std.proofs.Common.{sym, subst, arith, ℕ, ◌+◌, List, map, take, Option}
use Rattle.journal_model.specs.AwaitTree.{AwaitTree}
use Rattle.journal_model.specs.Future.{tree_of}
use Rattle.vm_flat_trees.specs.FutureRoots.{kind_combinator}
use Rattle.vm_flat_trees.proofs.Growing.{child-smaller, next-child}
use Rattle.vm_progress.specs.UncompletedAwaits.{IsGreatest, greater}
use Rattle.vm_progress.proofs.Greatest.{some_unfinished, more_greatest}
use Rattle.vm_progress.proofs.unfinished.+last_unfinished.Goals as goal

pub last_unfinished-requires : goal.last_unfinished-requires
last_unfinished-requires t c =
    let smaller = child-smaller (kind_combinator c.in-Node.field-0) (tree_of c.args.awaited.now) c.in-Node.children.now c.loop-child.child-index c.child-item.result c.in-Node.ensures.tree c.loop-child-test.true c.child-item.is in
    (omega (arith, smaller, c.decreases), tt)

pub loop-child-preserved : goal.loop-child-preserved
loop-child-preserved t c =
    subst (λ (found : Option ℕ). IsGreatest (some_unfinished c.args.runs.now.table (map tree_of (take (c.loop-child.child-index + 1) c.in-Node.children.now))) found) (sym c.greater-last.ensures)
    (subst (λ (trees : List (AwaitTree ℕ)). IsGreatest (some_unfinished c.args.runs.now.table trees) (greater c.loop-child.last c.last_unfinished.result))
    (next-child c.in-Node.children.now c.loop-child.child-index c.child-item.result c.loop-child-test.true c.child-item.is)
    (more_greatest c.args.runs.now.table (map tree_of (take c.loop-child.child-index c.in-Node.children.now)) (tree_of c.child-item.result) c.loop-child.last c.last_unfinished.result
    c.loop-child.invariant c.last_unfinished.ensures))
