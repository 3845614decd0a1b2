-- Nodes that are no tree's: how many trees they are the nodes of, one behind the other.
use Rattle.std.proofs.Common.{◌≡◌, refl, sym, ap, subst, ◌∙◌, ℕ, suc, ◌+◌, ◌-◌, leb, Bool, true, false, cond, IsTrue, IfErr, IsErrAnd, Result, Ok, Err, List, [], ◌∷◌, ◌++◌, length, append_assoc, append-nil, Option, Some, None, option_map, option_and_then, zero-add, add-zero, arith}
use Rattle.std.proofs.lemmas.Bool.{le-leb}
use Rattle.std.proofs.lemmas.Option.{none-some, same_Some}
use Rattle.journal_model.specs.AwaitTree.{AwaitTree, AwaitTrees, Single, Combined, no_trees, and_trees, Combinator, Unknown, FirstCompleted, AllCompleted, FirstSucceededOrAllFailed, AllSucceededOrFirstFailed, AtLeast}
use Rattle.journal_model.specs.Future.{tree_of}
use Rattle.journal_model.specs.declared.future.UnresolvedFuture.{UnresolvedFuture}
use Rattle.vm_c_values.specs.Arguments.{IsTree, IsUnread}
use Rattle.vm_c_values.specs.Nodes.{combinator_kind, required_by, count, nodes_of, nodes_of_all, nodes_from_top}
use Rattle.vm_c_values.specs.Stacks.{stands_on, put_on, trees_in}
use Rattle.vm_c_values.specs.declared.node.Node.{Node}
use Rattle.vm_c_values.specs.declared.not_done.Unread.{Unread}
use Rattle.vm_c_values.specs.declared.not_done.Unread.TheVariants.{Memory, Malformed}

-- ---- counts that may be none

then_counts : (f : ℕ → Option ℕ) (g : ℕ → ℕ) → ((n : ℕ) → f n ≡ Some (g n)) → (o : Option ℕ) → option_and_then f o ≡ option_map g o
then_counts f g gives None = refl
then_counts f g gives (Some n) = gives n

then_counts_of : (f : ℕ → Option ℕ) (h g : ℕ → ℕ) → ((n : ℕ) → f (h n) ≡ Some (g n)) → (o : Option ℕ) → option_and_then f (option_map h o) ≡ option_map g o
then_counts_of f h g gives None = refl
then_counts_of f h g gives (Some n) = gives n

counts_twice : (f g h : ℕ → ℕ) → ((n : ℕ) → f (g n) ≡ h n) → (o : Option ℕ) → option_map f (option_map g o) ≡ option_map h o
counts_twice f g h same None = refl
counts_twice f g h same (Some n) = ap Some (same n)

counts_the_same : (f : ℕ → ℕ) → ((n : ℕ) → f n ≡ n) → (o : Option ℕ) → o ≡ option_map f o
counts_the_same f same None = refl
counts_the_same f same (Some n) = ap Some (sym (same n))

-- ---- nodes of a tree count as one

placed : (k n : ℕ) → cond (leb k (k + n)) (Some (suc (k + n - k))) None ≡ Some (suc n)
placed k n = rw (le-leb k (k + n) (omega arith)) (ap (λ (m : ℕ). Some (suc m)) (omega arith))

leaf_put : (handle n : ℕ) → put_on (record { kind = 0; number = handle; required = 0 }) n ≡ Some (suc n)
leaf_put handle n = rw (le-leb 0 n (omega arith)) (ap (λ (m : ℕ). Some (suc m)) (omega arith))

combinator_put : (combinator : Combinator) (k n : ℕ) → put_on (record { kind = combinator_kind combinator; number = k; required = required_by combinator }) (k + n) ≡ Some (suc n)
combinator_put FirstCompleted k n = placed k n
combinator_put AllCompleted k n = placed k n
combinator_put FirstSucceededOrAllFailed k n = placed k n
combinator_put AllSucceededOrFirstFailed k n = placed k n
combinator_put (AtLeast required) k n = placed k n
combinator_put Unknown k n = placed k n

mutual
  tree_counted : (tree : AwaitTree ℕ) (more : List Node) → trees_in (nodes_of tree ++ more) ≡ option_map suc (trees_in more)
  tree_counted (Single handle) more = then_counts (put_on (record { kind = 0; number = handle; required = 0 })) suc (leaf_put handle) (trees_in more)
  tree_counted (Combined combinator children) more =
      let node : Node = record { kind = combinator_kind combinator; number = count children; required = required_by combinator } in
      ap (λ (o : Option ℕ). option_and_then (put_on node) o) (trees_counted children more)
      ∙ then_counts_of (put_on node) (λ n. count children + n) suc (combinator_put combinator (count children)) (trees_in more)

  trees_counted : (trees : AwaitTrees ℕ) (more : List Node) → trees_in (nodes_of_all trees ++ more) ≡ option_map (λ n. count trees + n) (trees_in more)
  trees_counted no_trees more = counts_the_same (λ n. 0 + n) (λ n. zero-add n) (trees_in more)
  trees_counted (and_trees tree trees) more =
      ap trees_in (append_assoc (nodes_of tree) (nodes_of_all trees) more) ∙ tree_counted tree (nodes_of_all trees ++ more) ∙ ap (λ (o : Option ℕ). option_map suc o) (trees_counted trees more)
      ∙ counts_twice suc (λ n. count trees + n) (λ n. suc (count trees) + n) (λ n. omega arith) (trees_in more)

one_counted : (tree : AwaitTree ℕ) → trees_in (nodes_of tree) ≡ Some 1
one_counted tree = ap trees_in (sym (append-nil (nodes_of tree))) ∙ tree_counted tree []

-- ---- a stack

stack_counted_before : (stack : List UnresolvedFuture) (more : List Node) → trees_in (nodes_from_top stack ++ more) ≡ option_map (λ n. length stack + n) (trees_in more)
stack_counted_before [] more = counts_the_same (λ n. 0 + n) (λ n. zero-add n) (trees_in more)
stack_counted_before (tree ∷ trees) more =
    ap trees_in (append_assoc (nodes_from_top trees) (nodes_of (tree_of tree)) more) ∙ stack_counted_before trees (nodes_of (tree_of tree) ++ more)
    ∙ ap (λ (o : Option ℕ). option_map (λ n. length trees + n) o) (tree_counted (tree_of tree) more)
    ∙ counts_twice (λ n. length trees + n) suc (λ n. suc (length trees) + n) (λ n. omega arith) (trees_in more)

pub stack_counted : (stack : List UnresolvedFuture) → trees_in (nodes_from_top stack) ≡ Some (length stack)
stack_counted stack = ap trees_in (sym (append-nil (nodes_from_top stack))) ∙ stack_counted_before stack [] ∙ ap Some (add-zero (length stack))

-- ---- nodes that are read no further

none_before : (before rest : List Node) → trees_in rest ≡ None → trees_in (before ++ rest) ≡ None
none_before [] rest none = none
none_before (node ∷ before) rest none = ap (λ (o : Option ℕ). option_and_then (put_on node) o) (none_before before rest none)

not_put : (b : Bool) (m : ℕ) → (b ≡ true → ⊥) → cond b (Some m) None ≡ None
not_put true m not_true = absurd (not_true refl)
not_put false m not_true = refl

other_count : (nodes : List Node) (counted : Option ℕ) → trees_in nodes ≡ counted → (counted ≡ Some 1 → ⊥) → IsTree nodes → ⊥
other_count nodes counted counts other tree = other (sym counts ∙ ap trees_in (sym tree.1.0) ∙ one_counted tree.0)

-- the node in front of the stack does not stand on it
pub unread_behind : (nodes rest before : List Node) (node : Node) (stack : List UnresolvedFuture) (why : Unread) → rest ++ nodes_from_top stack ≡ nodes → rest ≡ before ++ node ∷ []
    → IsUnread (IsTrue (stands_on node (length stack))) why → IsUnread (IsTree nodes) why
unread_behind nodes rest before node stack Memory read split lacks = tt
unread_behind nodes rest before node stack Malformed read split lacks =
    let none : trees_in (node ∷ nodes_from_top stack) ≡ None =
    ap (λ (o : Option ℕ). option_and_then (put_on node) o) (stack_counted stack) ∙ not_put (stands_on node (length stack)) _ lacks in
    let same : before ++ node ∷ nodes_from_top stack ≡ nodes =
    sym (append_assoc before (node ∷ []) (nodes_from_top stack)) ∙ ap (λ (more : List Node). more ++ nodes_from_top stack) (sym split) ∙ read in
    other_count nodes None (ap trees_in (sym same) ∙ none_before before (node ∷ nodes_from_top stack) none) (none-some {A = ℕ} 1)

-- all nodes are read, and are no tree's or several trees'
pub several : (nodes : List Node) (stack : List UnresolvedFuture) → nodes_from_top stack ≡ nodes → (length stack ≡ 1 → ⊥) → IsTree nodes → ⊥
several nodes stack has other = other_count nodes (Some (length stack)) (ap trees_in (sym has) ∙ stack_counted stack) (λ same. other (same_Some {A = ℕ} (length stack) 1 same))

-- an argument that is not read is answered as that
pub not_read : {A : Type 0} (IsWellFormed : Type 0) (result : Result A Unread) (why : Unread) → IsErrAnd result (λ it. it ≡ why) → IsUnread IsWellFormed why → IfErr result (IsUnread IsWellFormed)
not_read IsWellFormed (Ok value) why is unread = tt
not_read IsWellFormed (Err it) why is unread = subst (λ (one : Unread). IsUnread IsWellFormed one) (sym is) unread
