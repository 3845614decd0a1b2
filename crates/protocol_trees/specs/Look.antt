-- What looking at a tree answers.
use Rattle.std.specs.Prelude.{◌≡◌}
use Rattle.journal_model.specs.AwaitTree as Trees
use Rattle.protocol_trees.specs.Shape.{state_meant}
use Rattle.protocol_trees.specs.declared.tree.AwaitState.{AwaitState}
use Rattle.protocol_trees.specs.declared.tally.Looked.{Looked}

-- each possible answer for a leaf is the state of what the leaf means
abbrev pub AreStates : {Leaf Meant : Type 0} → (Leaf → AwaitState → Type 0) → (Leaf → Meant) → (Meant → Trees.AwaitState) → Type 0
AreStates answers meant states = (leaf : _) (state : AwaitState) → answers leaf state → state_meant state ≡ states (meant leaf)

-- what the tree has come to where its leaves have these states
pub record IsLooked {Meant : Type 0} (tree : Trees.AwaitTree Meant) (states : Meant → Trees.AwaitState) (looked : Looked) : Type 0 where
  pub state : state_meant looked.state ≡ Trees.await_state tree states
  pub ended : looked.has_ended ≡ Trees.has_ended_node tree states
