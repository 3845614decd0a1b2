-- How deep a tree is nested, by its nodes.
use Rattle.std.proofs.Common.{◌≡◌, refl, sym, ap, ◌∙◌, arith, ℕ, zero, suc, ◌+◌, ◌≤◌, Bool, true, false, ◌&&◌, List, [], ◌∷◌, ◌++◌, drop, reverse, ◌-◌, ◌<◌}
use Rattle.std.proofs.lemmas.List.{reverse-append, reverse-reverse}
use Rattle.std.specs.Prelude.{max, min, nat_le}
use Rattle.std.specs.List.{list_all}
use Rattle.std.proofs.lemmas.Bool.Decides.{nat_tests}
use Rattle.journal_model.specs.AwaitTree.{AwaitTree, AwaitTrees, Single, Combined, no_trees, and_trees, Combinator, Unknown, FirstCompleted, AllCompleted, FirstSucceededOrAllFailed, AllSucceededOrFirstFailed, AtLeast, levels_of, most_levels}
use Rattle.journal_model.specs.Future.{tree_of}
use Rattle.journal_model.specs.declared.future.UnresolvedFuture.{UnresolvedFuture}
use Rattle.vm_c_values.specs.Arguments.{IsTree}
use Rattle.vm_c_values.specs.Stacks.{children_of}
use Rattle.vm_c_values.specs.Levels.{most_of, level_over, put_level, levels_on}
use Rattle.vm_c_values.specs.Nodes.{combinator_kind, required_by, count, nodes_of, nodes_of_all}
use Rattle.vm_c_values.specs.declared.levels.TheConstants.{NODE_LEVELS}
use Rattle.vm_c_values.specs.declared.node.Node.{Node}

-- ---- the law

-- as far as levels are counted
abbrev counted : ℕ → ℕ
counted levels = min levels (suc NODE_LEVELS)

abbrev each : AwaitTrees ℕ → List ℕ
each no_trees = []
each (and_trees tree trees) = counted (levels_of tree) ∷ each trees

counted_max : (a b : ℕ) → max (counted a) (counted b) ≡ counted (max a b)
counted_max a b = grind (arith)

counted_more : (a : ℕ) → suc (min (counted a) NODE_LEVELS) ≡ counted (1 + a)
counted_more a = grind (arith)

most_each : (trees : AwaitTrees ℕ) (levels : List ℕ) → most_of (count trees) (each trees ++ levels) ≡ counted (most_levels trees)
most_each no_trees levels = refl
most_each (and_trees tree trees) levels =
    ap (λ (n : ℕ). max (counted (levels_of tree)) n) (most_each trees levels) ∙ counted_max (levels_of tree) (most_levels trees)

drop_each : (trees : AwaitTrees ℕ) (levels : List ℕ) → drop (count trees) (each trees ++ levels) ≡ levels
drop_each no_trees levels = refl
drop_each (and_trees tree trees) levels = drop_each trees levels

-- a node over its children's levels
put_each : (combinator : Combinator) (children : AwaitTrees ℕ) (levels : List ℕ)
    → put_level (record { kind = combinator_kind combinator; number = count children; required = required_by combinator }) (each children ++ levels) ≡ counted (levels_of (Combined combinator children)) ∷ levels
put_each combinator children levels = by_kind combinator
  where
    level : suc (min (most_of (count children) (each children ++ levels)) NODE_LEVELS) ≡ counted (1 + most_levels children)
    level = ap (λ (n : ℕ). suc (min n NODE_LEVELS)) (most_each children levels) ∙ counted_more (most_levels children)

    both : suc (min (most_of (count children) (each children ++ levels)) NODE_LEVELS) ∷ drop (count children) (each children ++ levels) ≡ counted (1 + most_levels children) ∷ levels
    both = λ i. level i ∷ drop_each children levels i

    by_kind : (combinator : Combinator)
        → put_level (record { kind = combinator_kind combinator; number = count children; required = required_by combinator }) (each children ++ levels) ≡ counted (levels_of (Combined combinator children)) ∷ levels
    by_kind Unknown = both
    by_kind FirstCompleted = both
    by_kind AllCompleted = both
    by_kind FirstSucceededOrAllFailed = both
    by_kind AllSucceededOrFirstFailed = both
    by_kind (AtLeast required) = both

levels_append : (nodes more : List Node) (levels : List ℕ) → levels_on (nodes ++ more) levels ≡ levels_on nodes (levels_on more levels)
levels_append [] more levels = refl
levels_append (node ∷ nodes) more levels = ap (put_level node) (levels_append nodes more levels)

mutual
  tree_levels : (tree : AwaitTree ℕ) (levels : List ℕ) → levels_on (nodes_of tree) levels ≡ counted (levels_of tree) ∷ levels
  tree_levels (Single handle) levels = refl
  tree_levels (Combined combinator children) levels =
      ap (put_level (record { kind = combinator_kind combinator; number = count children; required = required_by combinator })) (trees_levels children levels) ∙ put_each combinator children levels

  trees_levels : (trees : AwaitTrees ℕ) (levels : List ℕ) → levels_on (nodes_of_all trees) levels ≡ each trees ++ levels
  trees_levels no_trees levels = refl
  trees_levels (and_trees tree trees) levels =
      levels_append (nodes_of tree) (nodes_of_all trees) levels ∙ ap (levels_on (nodes_of tree)) (trees_levels trees levels) ∙ tree_levels tree (each trees ++ levels)

-- ---- what is answered

within_counted : (levels : ℕ) → nat_le (counted levels) NODE_LEVELS ≡ nat_le levels NODE_LEVELS
within_counted levels = grind (arith, nat_tests)

and_nothing : (b : Bool) → (b && true) ≡ b
and_nothing true = refl
and_nothing false = refl

-- the one level that is left is the tree's
pub within_is : (nodes : List Node) (levels : List ℕ) (within : Bool) → reverse levels ≡ levels_on nodes [] → within ≡ list_all (λ level. nat_le level NODE_LEVELS) levels
    → (tree : AwaitTree ℕ) → nodes_of tree ≡ nodes → within ≡ nat_le (levels_of tree) NODE_LEVELS
within_is nodes levels within read looked tree is =
    let back : reverse levels ≡ counted (levels_of tree) ∷ [] = read ∙ ap (λ (all : List Node). levels_on all []) (sym is) ∙ tree_levels tree [] in
    let one : levels ≡ counted (levels_of tree) ∷ [] = sym (reverse-reverse levels) ∙ ap reverse back in
    looked ∙ ap (list_all (λ level. nat_le level NODE_LEVELS)) one ∙ and_nothing (nat_le (counted (levels_of tree)) NODE_LEVELS) ∙ within_counted (levels_of tree)

-- one more node is read, and its level is on top
pub levels_one : (nodes rest before : List Node) (node : Node) (stack left next : List ℕ) (level : ℕ) → levels_on rest (reverse stack) ≡ levels_on nodes [] → rest ≡ before ++ node ∷ []
    → level ≡ level_over node (reverse stack) → reverse left ≡ drop (children_of node) (reverse stack) → next ≡ left ++ level ∷ [] → levels_on before (reverse next) ≡ levels_on nodes []
levels_one nodes rest before node stack left next level read split is others pushed =
    let turned : reverse next ≡ level ∷ reverse left = ap reverse pushed ∙ reverse-append left (level ∷ []) in
    let put : reverse next ≡ put_level node (reverse stack) = turned ∙ (λ i. is i ∷ others i) in
    ap (levels_on before) put ∙ sym (levels_append before (node ∷ []) (reverse stack)) ∙ ap (λ (all : List Node). levels_on all (reverse stack)) (sym split) ∙ read

-- nodes that are not read since they are nested too deep are no tree's
pub too_deep : (nodes : List Node) → ((tree : AwaitTree ℕ) → nodes_of tree ≡ nodes → false ≡ nat_le (levels_of tree) NODE_LEVELS) → IsTree nodes → ⊥
too_deep nodes deep (tree, (is, few)) = let not_so : false ≡ nat_le (levels_of tree) NODE_LEVELS = deep tree is in grind (arith, nat_tests, not_so, few)

-- a tree that is read is nested no deeper
pub few_levels : (nodes : List Node) (root : UnresolvedFuture) → ((tree : AwaitTree ℕ) → nodes_of tree ≡ nodes → true ≡ nat_le (levels_of tree) NODE_LEVELS) → nodes_of (tree_of root) ≡ nodes → IsTree nodes
few_levels nodes root within is = let so : true ≡ nat_le (levels_of (tree_of root)) NODE_LEVELS = within (tree_of root) is in (tree_of root, (is, grind (arith, nat_tests, so)))

-- ---- levels that are taken

-- so many of these were taken, the most of which is this; these are left
pub record HasTaken (count : ℕ) (all : List ℕ) (taken most : ℕ) (left : List ℕ) : Type 0 where
  pub most_is : most_of count all ≡ max most (most_of (count - taken) left)
  pub left_is : drop count all ≡ drop (count - taken) left

pub none_taken : (count : ℕ) (all : List ℕ) → HasTaken count all 0 0 all
none_taken count all = record {
  most_is = sym (ap (λ (n : ℕ). max 0 (most_of n all)) (omega arith) ∙ zero_max (most_of count all));
  left_is = ap (λ (n : ℕ). drop n all) (omega arith);
}
  where
    zero_max : (n : ℕ) → max 0 n ≡ n
    zero_max n = grind (arith)

max_more : (a b c : ℕ) → max a (max b c) ≡ max (max a b) c
max_more a b c = grind (arith)

most_next : (n : ℕ) (k : ℕ) (level : ℕ) (levels : List ℕ) → n ≡ suc k → most_of n (level ∷ levels) ≡ max level (most_of k levels)
most_next n k level levels is = ap (λ (m : ℕ). most_of m (level ∷ levels)) is

drop_next : (n : ℕ) (k : ℕ) (level : ℕ) (levels : List ℕ) → n ≡ suc k → drop n (level ∷ levels) ≡ drop k levels
drop_next n k level levels is = ap (λ (m : ℕ). drop m (level ∷ levels)) is

-- one more is taken from the top
pub takes_level : (count : ℕ) (all : List ℕ) (taken most level next : ℕ) (stack rest : List ℕ) → taken < count → HasTaken count all taken most (reverse stack) → stack ≡ rest ++ level ∷ []
    → next ≡ max most level → HasTaken count all (taken + 1) next (reverse rest)
takes_level count all taken most level next stack rest more has popped is =
    let turned : reverse stack ≡ level ∷ reverse rest = ap reverse popped ∙ reverse-append rest (level ∷ []) in
    let left : count - taken ≡ suc (count - (taken + 1)) = omega (arith, more) in
    record {
      most_is = has.most_is ∙ ap (λ (levels : List ℕ). max most (most_of (count - taken) levels)) turned
          ∙ ap (max most) (most_next (count - taken) (count - (taken + 1)) level (reverse rest) left) ∙ max_more most level (most_of (count - (taken + 1)) (reverse rest))
          ∙ ap (λ (n : ℕ). max n (most_of (count - (taken + 1)) (reverse rest))) (sym is);
      left_is = has.left_is ∙ ap (λ (levels : List ℕ). drop (count - taken) levels) turned ∙ drop_next (count - taken) (count - (taken + 1)) level (reverse rest) left;
    }

most_of_none : (n : ℕ) → most_of n [] ≡ 0
most_of_none zero = refl
most_of_none (suc n) = refl

drop_none : (n : ℕ) (levels : List ℕ) → levels ≡ [] → drop n levels ≡ []
drop_none zero levels is = is
drop_none (suc n) [] is = refl
drop_none (suc n) (level ∷ levels) is = absurd cc

-- all that are there were taken, and fewer than were asked for
pub few_taken : (count : ℕ) (all : List ℕ) (taken most : ℕ) (stack : List ℕ) → HasTaken count all taken most (reverse stack) → stack ≡ [] → (most ≡ most_of count all) × (reverse stack ≡ drop count all)
few_taken count all taken most stack has none = (
  sym (has.most_is ∙ ap (λ (levels : List ℕ). max most (most_of (count - taken) (reverse levels))) none ∙ ap (max most) (most_of_none (count - taken)) ∙ max_zero most),
  ap reverse none ∙ sym (has.left_is ∙ ap (λ (levels : List ℕ). drop (count - taken) (reverse levels)) none ∙ drop_none (count - taken) [] refl),
)
  where
    max_zero : (n : ℕ) → max n 0 ≡ n
    max_zero n = grind (arith)

-- as many were taken as were asked for
pub all_taken : (count : ℕ) (all : List ℕ) (taken most : ℕ) (left : List ℕ) → HasTaken count all taken most left → count ≤ taken → (most ≡ most_of count all) × (left ≡ drop count all)
all_taken count all taken most left has enough =
    let none : count - taken ≡ 0 = omega (arith, enough) in (
      sym (has.most_is ∙ ap (λ (n : ℕ). max most (most_of n left)) none ∙ max_zero most),
      sym (has.left_is ∙ ap (λ (n : ℕ). drop n left) none),
    )
  where
    max_zero : (n : ℕ) → max n 0 ≡ n
    max_zero n = grind (arith)
