-- A tree over ids is nested as deep as the tree over the handles that stand for them.
use Rattle.std.proofs.Common.{◌≡◌, ◌-◌, ◌∙◌, ℕ, zero, suc, Bool, true, false, ◌&&◌, not, Option, Some, None, refl, sym, ap}
use Rattle.protocol_wire.specs.declared.record.TheConstants.{LEVELS}
use Rattle.journal_model.specs.AwaitTree.{AwaitTree, Single, Combined, AwaitTrees, no_trees, and_trees}
use Rattle.journal_model.specs.Future.{tree_of}
use Rattle.journal_model.specs.PrunedTrees.{leaf_or_nothing, and_leaf, only_leaves, only_children}
use Rattle.journal_model.specs.declared.future.UnresolvedFuture.{UnresolvedFuture}
use Rattle.attempt_model.specs.Results.{Slots, slot_of}
use Rattle.vm_waiting.specs.SuspensionFrames.{is_nested_within, are_nested_within, is_too_deep}
use Rattle.vm_waiting.specs.WaitsFor.{ids_over}
use Rattle.vm_waiting.specs.declared.waits_for.WaitsFor.{WaitsFor}
use Rattle.vm_waiting.specs.declared.waits_for.WaitsFor.TheVariants.{Future, Child}

module _ {A B : Type 0} (stands : A → Option B) where
  before_nested : (levels : ℕ) (o : Option B) (trees : AwaitTrees B) → are_nested_within levels (and_leaf o trees) ≡ are_nested_within levels trees
  before_nested levels None trees = refl
  before_nested levels (Some leaf) trees = refl

  alone_nested : (levels : ℕ) (o : Option B) → is_nested_within (suc levels) (leaf_or_nothing o) ≡ true
  alone_nested levels None = refl
  alone_nested levels (Some leaf) = refl

  children_nested : (levels : ℕ) (trees : AwaitTrees A) → are_nested_within levels (only_children stands trees) ≡ are_nested_within levels trees
  children_nested levels no_trees = refl
  children_nested levels (and_trees (Single leaf) trees) = before_nested levels (stands leaf) (only_children stands trees) ∙ children_nested levels trees
  children_nested zero (and_trees (Combined combinator children) trees) = refl
  children_nested (suc levels) (and_trees (Combined combinator children) trees) = λ i. children_nested levels children i && children_nested (suc levels) trees i

  pub tree_nested : (levels : ℕ) (tree : AwaitTree A) → is_nested_within (suc levels) (only_leaves stands tree) ≡ is_nested_within (suc levels) tree
  tree_nested levels (Single leaf) = alone_nested levels (stands leaf)
  tree_nested levels (Combined combinator children) = children_nested levels children

-- what is left of a future
pub future_deep : (waits : WaitsFor) (left : UnresolvedFuture) (within : Bool) → waits ≡ Future left → within ≡ is_nested_within (LEVELS - 1) (tree_of left)
    → (slots : Slots) → not within ≡ is_too_deep (ids_over slots waits)
future_deep waits left within is same slots =
    ap not (same ∙ sym (tree_nested (slot_of slots) (LEVELS - 2) (tree_of left))) ∙ ap (λ (w : WaitsFor). is_too_deep (ids_over slots w)) (sym is)

-- a child alone
pub child_deep : (waits : WaitsFor) (completion : ℕ) → waits ≡ Child completion → (slots : Slots) → false ≡ is_too_deep (ids_over slots waits)
child_deep waits completion is slots = ap (λ (w : WaitsFor). is_too_deep (ids_over slots w)) (sym is)
