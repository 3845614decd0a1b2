use Rattle.std.proofs.Common.{sym, subst, arith, ℕ, ◌+◌, ◌&&◌, List, map, take, Option}
use Rattle.journal_model.specs.AwaitTree.{AwaitTree}
use Rattle.journal_model.specs.Future.{tree_of, trees_from}
use Rattle.body_laws.specs.Bodies.{some_has_handle}
use Rattle.vm_flat_trees.specs.FutureRoots.{kind_combinator}
use Rattle.vm_flat_trees.proofs.Growing.{child-smaller, next-child}
use Rattle.vm_runs.specs.Runs.{IsLeast, has_run, lesser}
use Rattle.vm_runs.proofs.Awaited.{more-least}
use Rattle.vm_runs.proofs.least.+least_awaited.Goals as goal

pub least_awaited-requires : goal.least_awaited-requires
least_awaited-requires t c =
    let smaller = child-smaller (kind_combinator c.in-Node.field-0) (tree_of c.args.awaited.now) c.in-Node.children.now c.loop-child.child-index c.child-item.result c.in-Node.ensures.tree c.loop-child-test.true c.child-item.is in
    (omega (arith, smaller, c.decreases), tt)

pub loop-child-preserved : goal.loop-child-preserved
loop-child-preserved t c =
    subst (λ (found : Option ℕ). IsLeast (λ n. has_run c.args.executing c.args.table.now.entries n && some_has_handle n (trees_from (map tree_of (take (c.loop-child.child-index + 1) c.in-Node.children.now)))) found) (sym c.lesser-least.ensures)
    (subst (λ (trees : List (AwaitTree ℕ)). IsLeast (λ n. has_run c.args.executing c.args.table.now.entries n && some_has_handle n (trees_from trees)) (lesser c.loop-child.least c.least_awaited.result))
    (next-child c.in-Node.children.now c.loop-child.child-index c.child-item.result c.loop-child-test.true c.child-item.is)
    (more-least (λ n. has_run c.args.executing c.args.table.now.entries n) (map tree_of (take c.loop-child.child-index c.in-Node.children.now)) (tree_of c.child-item.result) c.loop-child.least c.least_awaited.result
    c.loop-child.invariant c.least_awaited.ensures))
