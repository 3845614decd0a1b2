-- Whether a future asks for a number, by its root.
use Rattle.std.proofs.Common.{refl, ◌∙◌}
use Rattle.journal_model.specs.AwaitTree as Trees
use Rattle.journal_model.proofs.TreeLemmas.{asked_below, tree_of-FirstCompleted, tree_of-AllCompleted, tree_of-FirstSucceededOrAllFailed, tree_of-AllSucceededOrFirstFailed, tree_of-Unknown}
use Rattle.journal_model.proofs.future.+asking.Goals as goal

pub has_number-returns-in-FirstCompleted : goal.has_number-returns-in-FirstCompleted
has_number-returns-in-FirstCompleted t c = rw c.in-FirstCompleted.is (c.some_has_number.ensures ∙ asked_below Trees.FirstCompleted refl _ _ (tree_of-FirstCompleted _))

pub has_number-returns-in-AllCompleted : goal.has_number-returns-in-AllCompleted
has_number-returns-in-AllCompleted t c = rw c.in-AllCompleted.is (c.some_has_number-in-AllCompleted.ensures ∙ asked_below Trees.AllCompleted refl _ _ (tree_of-AllCompleted _))

pub has_number-returns-in-FirstSucceededOrAllFailed : goal.has_number-returns-in-FirstSucceededOrAllFailed
has_number-returns-in-FirstSucceededOrAllFailed t c = rw c.in-FirstSucceededOrAllFailed.is (c.some_has_number-in-FirstSucceededOrAllFailed.ensures ∙ asked_below Trees.FirstSucceededOrAllFailed refl _ _ (tree_of-FirstSucceededOrAllFailed _))

pub has_number-returns-in-AllSucceededOrFirstFailed : goal.has_number-returns-in-AllSucceededOrFirstFailed
has_number-returns-in-AllSucceededOrFirstFailed t c = rw c.in-AllSucceededOrFirstFailed.is (c.some_has_number-in-AllSucceededOrFirstFailed.ensures ∙ asked_below Trees.AllSucceededOrFirstFailed refl _ _ (tree_of-AllSucceededOrFirstFailed _))

pub has_number-returns-in-Unknown : goal.has_number-returns-in-Unknown
has_number-returns-in-Unknown t c = rw c.in-Unknown.is (c.some_has_number-in-Unknown.ensures ∙ asked_below Trees.Unknown refl _ _ (tree_of-Unknown _))
