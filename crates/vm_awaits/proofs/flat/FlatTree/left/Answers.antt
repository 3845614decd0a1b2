use Rattle.std.proofs.Common.{subst, ℕ, List, IfOk, ◌≡◌, false}
use Rattle.journal_model.specs.AwaitTree.{AwaitState, AwaitTree, is_awake}
use Rattle.journal_model.specs.Future.{tree_of}
use Rattle.journal_model.specs.PrunedTrees.{pruned}
use Rattle.vm_flat_trees.specs.declared.node.FlatNode.{FlatNode}
use Rattle.vm_flat_trees.specs.Flat.{flat_of}
use Rattle.vm_awaits.proofs.Keeping.{seen-left}
use Rattle.vm_awaits.proofs.flat.FlatTree.left.Goals as goal

pub returns : goal.returns
returns c =
    seen-left c.self.inside.slots.now c.self.inside.nodes.items c.self.inside.leaves c.self.inside.is_awake c.args.self.now c.self.view_is c.self.invariant c.left.result
    (subst (λ (nodes : List FlatNode). IfOk c.left.result (λ answer. (tree : AwaitTree ℕ) (leaves : ℕ → AwaitState) → nodes ≡ flat_of tree leaves → is_awake tree leaves ≡ false → tree_of answer ≡ pruned tree leaves))
    c.as_slice.ensures.value c.left.ensures)
