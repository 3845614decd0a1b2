-- The shape of a tree: one leaf, or a node over its leaves and the trees in it.
use Rattle.std.specs.Prelude.{◌≡◌, List, [], ◌∷◌, ◌++◌, map}
use Rattle.journal_model.specs.AwaitTree as Trees
use Rattle.protocol_trees.specs.declared.tree.AwaitState.{AwaitState}
use Rattle.protocol_trees.specs.declared.tree.AwaitState.TheVariants as states
use Rattle.protocol_trees.specs.declared.tree.AwaitTreeShape.{AwaitTreeShape}
use Rattle.protocol_trees.specs.declared.tree.AwaitTreeShape.TheVariants as shapes

abbrev pub state_meant : AwaitState → Trees.AwaitState
state_meant states.Pending = Trees.Pending
state_meant states.Succeeded = Trees.Succeeded
state_meant states.Failed = Trees.Failed

-- how a node combines its children; one leaf combines none
abbrev pub shape_combinator : AwaitTreeShape → Trees.Combinator
shape_combinator shapes.Single = Trees.FirstCompleted
shape_combinator shapes.FirstCompleted = Trees.FirstCompleted
shape_combinator shapes.AllCompleted = Trees.AllCompleted
shape_combinator shapes.FirstSucceededOrAllFailed = Trees.FirstSucceededOrAllFailed
shape_combinator shapes.AllSucceededOrFirstFailed = Trees.AllSucceededOrFirstFailed
shape_combinator shapes.Unknown = Trees.Unknown
shape_combinator (shapes.AtLeast required) = Trees.AtLeast required

abbrev pub forest : {Meant : Type 0} → List (Trees.AwaitTree Meant) → Trees.AwaitTrees Meant
forest [] = Trees.no_trees
forest (tree ∷ trees) = Trees.and_trees tree (forest trees)

-- a node over its leaves, and behind them the trees in it
abbrev pub node : {Meant : Type 0} → Trees.Combinator → List Meant → List (Trees.AwaitTree Meant) → Trees.AwaitTree Meant
node combinator leaves children = Trees.Combined combinator (forest (map (λ leaf. Trees.Single leaf) leaves ++ children))

-- the tree is its one leaf
pub record IsLeaf {Meant : Type 0} (leaves : List Meant) (children : List (Trees.AwaitTree Meant)) (tree : Trees.AwaitTree Meant) : Type 0 where
  pub leaf : Meant
  pub leaves_are : leaves ≡ leaf ∷ []
  pub children_are : children ≡ []
  pub tree_is : tree ≡ Trees.Single leaf

abbrev pub IsShaped : {Meant : Type 0} → AwaitTreeShape → List Meant → List (Trees.AwaitTree Meant) → Trees.AwaitTree Meant → Type 0
IsShaped shapes.Single leaves children tree = IsLeaf leaves children tree
IsShaped shapes.FirstCompleted leaves children tree = tree ≡ node Trees.FirstCompleted leaves children
IsShaped shapes.AllCompleted leaves children tree = tree ≡ node Trees.AllCompleted leaves children
IsShaped shapes.FirstSucceededOrAllFailed leaves children tree = tree ≡ node Trees.FirstSucceededOrAllFailed leaves children
IsShaped shapes.AllSucceededOrFirstFailed leaves children tree = tree ≡ node Trees.AllSucceededOrFirstFailed leaves children
IsShaped shapes.Unknown leaves children tree = tree ≡ node Trees.Unknown leaves children
IsShaped (shapes.AtLeast required) leaves children tree = tree ≡ node (Trees.AtLeast required) leaves children
