use Rattle.std.proofs.Common.{false, ◌++◌, take, map}
use Rattle.std.specs.List.{list_any}
use Rattle.journal_model.specs.AwaitTree as Trees
use Rattle.protocol_trees.specs.Look.{AreStates}
use Rattle.protocol_trees.specs.Tally.{Tallies}
use Rattle.protocol_trees.proofs.Forests.{tree_size}
use Rattle.protocol_trees.proofs.look.+look.Given as goal

abbrev pub decreases-look : goal.decreases-look
decreases-look g l = tree_size (g.T.AwaitTree.tree l.tree)

abbrev pub invariant-loop-index : goal.invariant-loop-index
invariant-loop-index g l = (states : g.T.AwaitTree.Meant → Trees.AwaitState) → AreStates (λ leaf state. g.F.Fn.post l.leaves (leaf, tt) state) g.T.AwaitTree.meant states
    → Tallies l.shape l.tally (map states (take l.index (g.T.AwaitTree.leaves_of l.tree))) false

abbrev pub invariant-loop-place : goal.invariant-loop-place
invariant-loop-place g l = (states : g.T.AwaitTree.Meant → Trees.AwaitState) → AreStates (λ leaf state. g.F.Fn.post l.leaves (leaf, tt) state) g.T.AwaitTree.meant states
    → Tallies l.shape l.tally (map states (g.T.AwaitTree.leaves_of l.tree) ++ map (λ tree. Trees.await_state tree states) (take l.place (g.T.AwaitTree.children_of l.tree)))
    (list_any (λ tree. Trees.has_ended_node tree states) (take l.place (g.T.AwaitTree.children_of l.tree)))
