-- Futures by their roots.
use Rattle.std.specs.Prelude.{◌≡◌, ℕ, map}
use Rattle.journal_model.specs.AwaitTree as Trees
use Rattle.journal_model.specs.Future.{tree_of, node}
use Rattle.vm_flat_trees.specs.declared.node.Kind.{Kind}
use Rattle.vm_flat_trees.specs.declared.node.Kind.TheVariants as kinds
use Rattle.vm_flat_trees.specs.declared.opening.Opened.{Opened}
use Rattle.vm_flat_trees.specs.declared.opening.Opened.TheVariants.{Leaf, Node}
use Rattle.vm_flat_trees.specs.Counts.{node_kind}

abbrev pub kind_combinator : Kind → Trees.Combinator
kind_combinator (kinds.Leaf handle) = Trees.Unknown
kind_combinator kinds.Unknown = Trees.Unknown
kind_combinator kinds.FirstCompleted = Trees.FirstCompleted
kind_combinator kinds.AllCompleted = Trees.AllCompleted
kind_combinator kinds.FirstSucceededOrAllFailed = Trees.FirstSucceededOrAllFailed
kind_combinator kinds.AllSucceededOrFirstFailed = Trees.AllSucceededOrFirstFailed
kind_combinator (kinds.AtLeast required) = Trees.AtLeast required

-- the tree of a future that was opened
abbrev pub opened_tree : Opened → Trees.AwaitTree ℕ
opened_tree (Leaf handle) = Trees.Single handle
opened_tree (Node kind children) = node (kind_combinator kind) (map tree_of children.now)

abbrev pub IsInner : Opened → Type 0
IsInner (Leaf handle) = Unit {0}
IsInner (Node kind children) = node_kind (kind_combinator kind) ≡ kind
