-- Nodes of trees that are put on a stack, and taken from it.
use Rattle.std.proofs.Common.{◌≡◌, refl, sym, ap, ◌∙◌, ℕ, suc, List, [], ◌∷◌, ◌++◌, length, map, append_assoc, append-nil}
use Rattle.journal_model.specs.AwaitTree.{AwaitTree, AwaitTrees, Combinator}
use Rattle.journal_model.specs.Future.{tree_of, trees_from, node}
use Rattle.journal_model.specs.declared.future.UnresolvedFuture.{UnresolvedFuture}
use Rattle.vm_c_values.specs.declared.node.Node.{Node}
use Rattle.vm_c_values.specs.Nodes.{combinator_kind, required_by, count, nodes_of, nodes_in_order, nodes_from_top}

-- one more tree on top
pub on_top : (trees : List UnresolvedFuture) (tree : UnresolvedFuture) → nodes_from_top (trees ++ tree ∷ []) ≡ nodes_of (tree_of tree) ++ nodes_from_top trees
on_top [] tree = sym (append-nil (nodes_of (tree_of tree)))
on_top (first ∷ trees) tree =
    ap (λ (nodes : List Node). nodes ++ nodes_of (tree_of first)) (on_top trees tree) ∙ append_assoc (nodes_of (tree_of tree)) (nodes_from_top trees) (nodes_of (tree_of first))

-- one more tree at the end
pub at_end : (trees : List UnresolvedFuture) (tree : UnresolvedFuture) → nodes_in_order (trees ++ tree ∷ []) ≡ nodes_in_order trees ++ nodes_of (tree_of tree)
at_end [] tree = append-nil (nodes_of (tree_of tree))
at_end (first ∷ trees) tree =
    ap (λ (nodes : List Node). nodes_of (tree_of first) ++ nodes) (at_end trees tree) ∙ sym (append_assoc (nodes_of (tree_of first)) (nodes_in_order trees) (nodes_of (tree_of tree)))

pub counted : (trees : List UnresolvedFuture) → count (trees_from (map tree_of trees)) ≡ length trees
counted [] = refl
counted (tree ∷ trees) = ap suc (counted trees)

-- one more child is taken from the top
pub takes_one : (all stack rest taken more : List UnresolvedFuture) (child : UnresolvedFuture) → nodes_from_top all ≡ nodes_in_order taken ++ nodes_from_top stack → stack ≡ rest ++ child ∷ []
    → more ≡ taken ++ child ∷ [] → nodes_from_top all ≡ nodes_in_order more ++ nodes_from_top rest
takes_one all stack rest taken more child before popped pushed =
    before ∙ ap (λ (trees : List UnresolvedFuture). nodes_in_order taken ++ nodes_from_top trees) popped ∙ ap (λ (nodes : List Node). nodes_in_order taken ++ nodes) (on_top rest child)
    ∙ sym (append_assoc (nodes_in_order taken) (nodes_of (tree_of child)) (nodes_from_top rest)) ∙ ap (λ (nodes : List Node). nodes ++ nodes_from_top rest) (sym (at_end taken child))
    ∙ ap (λ (trees : List UnresolvedFuture). nodes_in_order trees ++ nodes_from_top rest) (sym pushed)

-- the nodes of a combinator over its children
pub over_children : (combinator : Combinator) (future : UnresolvedFuture) (children : List UnresolvedFuture) → tree_of future ≡ node combinator (map tree_of children)
    → nodes_of (tree_of future) ≡ record { kind = combinator_kind combinator; number = length children; required = required_by combinator } ∷ nodes_in_order children
over_children combinator future children is =
    ap (λ (tree : AwaitTree ℕ). nodes_of tree) is
    ∙ ap (λ (number : ℕ). record { kind = combinator_kind combinator; number = number; required = required_by combinator } ∷ nodes_in_order children) (counted children)

-- one more node is read, and its tree is on top
pub reads_one : (nodes rest before : List Node) (node : Node) (stack left next : List UnresolvedFuture) (tree : UnresolvedFuture) → rest ++ nodes_from_top stack ≡ nodes → rest ≡ before ++ node ∷ []
    → node ∷ nodes_from_top stack ≡ nodes_of (tree_of tree) ++ nodes_from_top left → next ≡ left ++ tree ∷ [] → before ++ nodes_from_top next ≡ nodes
reads_one nodes rest before node stack left next tree read split stands pushed =
    ap (λ (trees : List UnresolvedFuture). before ++ nodes_from_top trees) pushed ∙ ap (λ (more : List Node). before ++ more) (on_top left tree ∙ sym stands)
    ∙ sym (append_assoc before (node ∷ []) (nodes_from_top stack)) ∙ ap (λ (more : List Node). more ++ nodes_from_top stack) (sym split) ∙ read

-- the one tree of a stack has all nodes
pub alone : (nodes : List Node) (stack rest : List UnresolvedFuture) (root : UnresolvedFuture) → nodes_from_top stack ≡ nodes → stack ≡ rest ++ root ∷ [] → rest ≡ [] → nodes_of (tree_of root) ≡ nodes
alone nodes stack rest root has popped none =
    sym (ap nodes_from_top (popped ∙ ap (λ (trees : List UnresolvedFuture). trees ++ root ∷ []) none)) ∙ has
