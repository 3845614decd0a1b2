-- Futures as trees, by their roots.
use Rattle.std.specs.Prelude.{ℕ, map}
use Rattle.journal_model.specs.AwaitTree as Trees
use Rattle.journal_model.specs.Future.{tree_of, node}
use Rattle.vm_awaits.specs.declared.tree.Combinator.{Combinator}
use Rattle.vm_awaits.specs.declared.tree.Combinator.TheVariants as combinators
use Rattle.vm_awaits.specs.declared.tree.Opened.{Opened}
use Rattle.vm_awaits.specs.declared.tree.Opened.TheVariants.{Leaf, Node}

abbrev pub combinator_meant : Combinator → Trees.Combinator
combinator_meant combinators.Unknown = Trees.Unknown
combinator_meant combinators.FirstCompleted = Trees.FirstCompleted
combinator_meant combinators.AllCompleted = Trees.AllCompleted
-- these two ask how a child has ended, and not only whether it has
combinator_meant combinators.FirstSucceededOrAllFailed = Trees.FirstSucceededOrAllFailed
combinator_meant combinators.AllSucceededOrFirstFailed = Trees.AllSucceededOrFirstFailed
combinator_meant (combinators.AtLeast required) = Trees.AtLeast required

-- the tree of a future that was opened
abbrev pub opened_tree : Opened → Trees.AwaitTree ℕ
opened_tree (Leaf handle) = Trees.Single handle
opened_tree (Node combinator children) = node (combinator_meant combinator) (map tree_of children.now)
