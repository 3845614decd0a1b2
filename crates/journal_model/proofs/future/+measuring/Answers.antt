-- Whether a future is deeper, by its root.
use Rattle.std.proofs.Common.{◌∙◌}
use Rattle.journal_model.specs.AwaitTree as Trees
use Rattle.journal_model.proofs.TreeLemmas.{deeper_below, tree_of-FirstCompleted, tree_of-AllCompleted, tree_of-FirstSucceededOrAllFailed, tree_of-AllSucceededOrFirstFailed, tree_of-Unknown, tree_of-AtLeast}
use Rattle.journal_model.proofs.future.+measuring.Goals as goal

pub is_deeper_than-returns-in-FirstCompleted : goal.is_deeper_than-returns-in-FirstCompleted
is_deeper_than-returns-in-FirstCompleted t c = rw c.in-FirstCompleted.is (c.some_is_deeper.ensures ∙ deeper_below c.args.levels Trees.FirstCompleted _ _ (tree_of-FirstCompleted _))

pub is_deeper_than-returns-in-AllCompleted : goal.is_deeper_than-returns-in-AllCompleted
is_deeper_than-returns-in-AllCompleted t c = rw c.in-AllCompleted.is (c.some_is_deeper-in-AllCompleted.ensures ∙ deeper_below c.args.levels Trees.AllCompleted _ _ (tree_of-AllCompleted _))

pub is_deeper_than-returns-in-FirstSucceededOrAllFailed : goal.is_deeper_than-returns-in-FirstSucceededOrAllFailed
is_deeper_than-returns-in-FirstSucceededOrAllFailed t c = rw c.in-FirstSucceededOrAllFailed.is (c.some_is_deeper-in-FirstSucceededOrAllFailed.ensures ∙ deeper_below c.args.levels Trees.FirstSucceededOrAllFailed _ _ (tree_of-FirstSucceededOrAllFailed _))

pub is_deeper_than-returns-in-AllSucceededOrFirstFailed : goal.is_deeper_than-returns-in-AllSucceededOrFirstFailed
is_deeper_than-returns-in-AllSucceededOrFirstFailed t c = rw c.in-AllSucceededOrFirstFailed.is (c.some_is_deeper-in-AllSucceededOrFirstFailed.ensures ∙ deeper_below c.args.levels Trees.AllSucceededOrFirstFailed _ _ (tree_of-AllSucceededOrFirstFailed _))

pub is_deeper_than-returns-in-Unknown : goal.is_deeper_than-returns-in-Unknown
is_deeper_than-returns-in-Unknown t c = rw c.in-Unknown.is (c.some_is_deeper-in-Unknown.ensures ∙ deeper_below c.args.levels Trees.Unknown _ _ (tree_of-Unknown _))

pub is_deeper_than-returns-in-AtLeast : goal.is_deeper_than-returns-in-AtLeast
is_deeper_than-returns-in-AtLeast t c = rw c.in-AtLeast.is (c.some_is_deeper-in-AtLeast.ensures ∙ deeper_below c.args.levels (Trees.AtLeast _) _ _ (tree_of-AtLeast _ _))
