-- Trees of handles as lists of nodes, each before those of its children.
use Rattle.std.specs.Prelude.{ℕ, suc, List, [], ◌∷◌, ◌++◌, map}
use Rattle.journal_model.specs.AwaitTree.{AwaitTree, Single, Combined, AwaitTrees, no_trees, and_trees, Combinator, Unknown, FirstCompleted, AllCompleted, FirstSucceededOrAllFailed, AllSucceededOrFirstFailed, AtLeast}
use Rattle.journal_model.specs.Future.{tree_of, trees_from}
use Rattle.journal_model.specs.declared.future.UnresolvedFuture.{UnresolvedFuture}
use Rattle.vm_c_values.specs.declared.node.Node.{Node}

abbrev pub combinator_kind : Combinator → ℕ
combinator_kind FirstCompleted = 1
combinator_kind AllCompleted = 2
combinator_kind FirstSucceededOrAllFailed = 3
combinator_kind AllSucceededOrFirstFailed = 4
combinator_kind (AtLeast required) = 5
combinator_kind Unknown = 6

abbrev pub required_by : Combinator → ℕ
required_by (AtLeast required) = required
required_by combinator = 0

abbrev pub count : AwaitTrees ℕ → ℕ
count no_trees = 0
count (and_trees tree trees) = suc (count trees)

abbrev mutual
  pub nodes_of : AwaitTree ℕ → List Node
  nodes_of (Single handle) = record { kind = 0; number = handle; required = 0 } ∷ []
  nodes_of (Combined combinator children) = record { kind = combinator_kind combinator; number = count children; required = required_by combinator } ∷ nodes_of_all children

  pub nodes_of_all : AwaitTrees ℕ → List Node
  nodes_of_all no_trees = []
  nodes_of_all (and_trees tree trees) = nodes_of tree ++ nodes_of_all trees

-- ---- lists of trees

-- in their order
abbrev pub nodes_in_order : List UnresolvedFuture → List Node
nodes_in_order trees = nodes_of_all (trees_from (map tree_of trees))

-- of a stack, whose top is last, from its top
abbrev pub nodes_from_top : List UnresolvedFuture → List Node
nodes_from_top [] = []
nodes_from_top (tree ∷ trees) = nodes_from_top trees ++ nodes_of (tree_of tree)
