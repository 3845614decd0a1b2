-- The numbers of a future fit, by its root.
use Rattle.std.proofs.Common.{arith, sym, subst}
use Rattle.journal_model.specs.AwaitTree as Trees
use Rattle.journal_model.proofs.TreeLemmas.{tree_of-FirstCompleted, tree_of-AllCompleted, tree_of-FirstSucceededOrAllFailed, tree_of-AllSucceededOrFirstFailed, tree_of-Unknown, tree_of-AtLeast}
use Rattle.vm_attempt.proofs.Lists.{all_next}
use Rattle.vm_attempt.proofs.Numbers.{FitsBelow, FitsWithin, looked_below, node_fits}
use Rattle.vm_attempt.proofs.typed.+futures_typed.Goals as goal

pub future_is_typed-returns-in-FirstCompleted : goal.future_is_typed-returns-in-FirstCompleted
future_is_typed-returns-in-FirstCompleted t c =
    rw c.in-FirstCompleted.is (subst (FitsWithin c.args.levels) (sym (tree_of-FirstCompleted _)) (node_fits c.args.levels Trees.FirstCompleted _ (omega arith) c.futures_are_typed.ensures))

pub future_is_typed-returns-in-AllCompleted : goal.future_is_typed-returns-in-AllCompleted
future_is_typed-returns-in-AllCompleted t c =
    rw c.in-AllCompleted.is (subst (FitsWithin c.args.levels) (sym (tree_of-AllCompleted _)) (node_fits c.args.levels Trees.AllCompleted _ (omega arith) c.futures_are_typed-in-AllCompleted.ensures))

pub future_is_typed-returns-in-FirstSucceededOrAllFailed : goal.future_is_typed-returns-in-FirstSucceededOrAllFailed
future_is_typed-returns-in-FirstSucceededOrAllFailed t c =
    rw c.in-FirstSucceededOrAllFailed.is (subst (FitsWithin c.args.levels) (sym (tree_of-FirstSucceededOrAllFailed _)) (node_fits c.args.levels Trees.FirstSucceededOrAllFailed _ (omega arith) c.futures_are_typed-in-FirstSucceededOrAllFailed.ensures))

pub future_is_typed-returns-in-AllSucceededOrFirstFailed : goal.future_is_typed-returns-in-AllSucceededOrFirstFailed
future_is_typed-returns-in-AllSucceededOrFirstFailed t c =
    rw c.in-AllSucceededOrFirstFailed.is (subst (FitsWithin c.args.levels) (sym (tree_of-AllSucceededOrFirstFailed _)) (node_fits c.args.levels Trees.AllSucceededOrFirstFailed _ (omega arith) c.futures_are_typed-in-AllSucceededOrFirstFailed.ensures))

pub future_is_typed-returns-in-Unknown : goal.future_is_typed-returns-in-Unknown
future_is_typed-returns-in-Unknown t c =
    rw c.in-Unknown.is (subst (FitsWithin c.args.levels) (sym (tree_of-Unknown _)) (node_fits c.args.levels Trees.Unknown _ (omega arith) c.futures_are_typed-in-Unknown.ensures))

pub future_is_typed-returns-in-AtLeast : goal.future_is_typed-returns-in-AtLeast
future_is_typed-returns-in-AtLeast t c =
    rw c.in-AtLeast.is (subst (FitsWithin c.args.levels) (sym (tree_of-AtLeast _ _)) (node_fits c.args.levels (Trees.AtLeast _) _ c.number_is_typed.ensures c.futures_are_typed-in-AtLeast.ensures))

pub futures_are_typed-loop-child-preserved : goal.futures_are_typed-loop-child-preserved
futures_are_typed-loop-child-preserved t c =
    all_next (FitsBelow c.args.levels) c.as_slice-child-items.result.now c.loop-child.child-index c.child-item.result c.loop-child-test.true c.child-item.is c.loop-child.invariant
    (looked_below c.args.levels c.child-item.result c.future_is_typed.ensures)
