-- What counts tell of states.
use Rattle.std.proofs.Common.{◌≡◌, refl, sym, ap, ap₂, ◌∙◌, ℕ, ◌+◌, ◌-◌, ◌==◌, ne_eqb, arith, Bool, true, false, not, ◌||◌, if◌then◌else◌, List, [], ◌∷◌, ◌++◌, Option}
use Rattle.std.specs.List.{list_any, list_all}
use Rattle.journal_model.specs.AwaitTree as Trees
use Rattle.journal_model.specs.AwaitTree.{AwaitState, Pending, Succeeded, Failed, is_completed, is_succeeded, is_failed, Combinator, AwaitTree, AwaitTrees, Single, Combined, no_trees, and_trees, first_completed, many, at_least, at_least_state, combined_state, await_state, child_states, ends_at_once, has_ended, has_ended_node, some_has_ended_node, is_awake}
use Rattle.journal_laws.proofs.Leaving.{or-false}
use Rattle.vm_flat_trees.specs.declared.node.FlatNode.{FlatNode}
use Rattle.vm_flat_trees.specs.declared.node.Kind.TheVariants as kinds
use Rattle.journal_model.specs.PrunedTrees.{lowered}
use Rattle.vm_flat_trees.specs.Counts.{counts_of, first_by, at_least_by, state_by, is_ended, node_kind, lowered_kind}
use Rattle.vm_flat_trees.specs.Flat.{size_of, reckoned, all_reckoned, flat_at, flats_at, has_ended as node_ended, root_state, is_awake_flat}

one_more : (n : ℕ) → (n + 1 == 0) ≡ false
one_more n = ne_eqb (n + 1) 0 (λ e. absurd (omega (arith, e)))

none-succeeded : (xs : List AwaitState) → ((counts_of xs).succeeded == 0) ≡ not (list_any is_succeeded xs)
none-succeeded [] = refl
none-succeeded (Pending ∷ xs) = none-succeeded xs
none-succeeded (Succeeded ∷ xs) = one_more (counts_of xs).succeeded
none-succeeded (Failed ∷ xs) = none-succeeded xs

none-failed : (xs : List AwaitState) → ((counts_of xs).failed == 0) ≡ not (list_any is_failed xs)
none-failed [] = refl
none-failed (Pending ∷ xs) = none-failed xs
none-failed (Succeeded ∷ xs) = none-failed xs
none-failed (Failed ∷ xs) = one_more (counts_of xs).failed

none-pending : (xs : List AwaitState) → ((counts_of xs).pending == 0) ≡ list_all is_completed xs
none-pending [] = refl
none-pending (Pending ∷ xs) = one_more (counts_of xs).pending
none-pending (Succeeded ∷ xs) = none-pending xs
none-pending (Failed ∷ xs) = none-pending xs

or_true : (b : Bool) → (b || true) ≡ true
or_true true = refl
or_true false = refl

not-not : (b : Bool) → not (not b) ≡ b
not-not true = refl
not-not false = refl

some-completed : (xs : List AwaitState) → (list_any is_succeeded xs || list_any is_failed xs) ≡ list_any is_completed xs
some-completed [] = refl
some-completed (Pending ∷ xs) = some-completed xs
some-completed (Succeeded ∷ xs) = refl
some-completed (Failed ∷ xs) = or_true (list_any is_succeeded xs)

never-ends : (xs : List AwaitState) → list_any (ends_at_once Trees.AllCompleted) xs ≡ false
never-ends [] = refl
never-ends (x ∷ xs) = never-ends xs

first-pending : (xs : List AwaitState) → list_any is_completed xs ≡ false → first_completed xs ≡ Pending
first-pending [] quiet = refl
first-pending (Pending ∷ xs) quiet = first-pending xs quiet
first-pending (Succeeded ∷ xs) quiet = cc
first-pending (Failed ∷ xs) quiet = cc

completed-failed : (xs : List AwaitState) → list_any is_succeeded xs ≡ false → list_all is_completed xs ≡ list_all is_failed xs
completed-failed [] quiet = refl
completed-failed (Pending ∷ xs) quiet = refl
completed-failed (Succeeded ∷ xs) quiet = cc
completed-failed (Failed ∷ xs) quiet = completed-failed xs quiet

completed-succeeded : (xs : List AwaitState) → list_any is_failed xs ≡ false → list_all is_completed xs ≡ list_all is_succeeded xs
completed-succeeded [] quiet = refl
completed-succeeded (Pending ∷ xs) quiet = refl
completed-succeeded (Succeeded ∷ xs) quiet = completed-succeeded xs quiet
completed-succeeded (Failed ∷ xs) quiet = cc

-- ---- a number of successes

many-succeeded : (states : List AwaitState) → (counts_of states).succeeded ≡ many is_succeeded states
many-succeeded [] = refl
many-succeeded (Pending ∷ states) = many-succeeded states
many-succeeded (Succeeded ∷ states) = ap (λ (n : ℕ). n + 1) (many-succeeded states)
many-succeeded (Failed ∷ states) = many-succeeded states

many-hopeful : (states : List AwaitState) → (counts_of states).pending + (counts_of states).succeeded ≡ many (λ state. not (is_failed state)) states
many-hopeful [] = refl
many-hopeful (Pending ∷ states) = omega (arith, many-hopeful states)
many-hopeful (Succeeded ∷ states) = omega (arith, many-hopeful states)
many-hopeful (Failed ∷ states) = many-hopeful states

by-counts : (required : ℕ) (states : List AwaitState) → at_least_by required (counts_of states) ≡ at_least_state required states
by-counts required states = ap₂ (at_least required) (many-succeeded states) (many-hopeful states)

-- how a node combines what is left is told by its counts
pub lowered-counts : (combinator : Combinator) (xs : List AwaitState) → lowered_kind (node_kind combinator) (counts_of xs) ≡ node_kind (lowered combinator xs)
lowered-counts Trees.Unknown xs = refl
lowered-counts Trees.FirstCompleted xs = refl
lowered-counts Trees.AllCompleted xs = refl
lowered-counts Trees.FirstSucceededOrAllFailed xs = refl
lowered-counts Trees.AllSucceededOrFirstFailed xs = refl
lowered-counts (Trees.AtLeast required) xs = ap (λ (n : ℕ). kinds.AtLeast (required - n)) (many-succeeded xs)

-- ---- what counts tell of a node

either_ended : (xs : List AwaitState) → (not ((counts_of xs).succeeded == 0) || not ((counts_of xs).failed == 0)) ≡ list_any is_completed xs
either_ended xs =
    ap₂ (λ (a b : Bool). not a || not b) (none-succeeded xs) (none-failed xs)
    ∙ ap₂ (λ (a b : Bool). a || b) (not-not (list_any is_succeeded xs)) (not-not (list_any is_failed xs))
    ∙ some-completed xs

-- whether a node has ended is told by its counts
pub ended-counts : (combinator : Combinator) (xs : List AwaitState) → is_ended (node_kind combinator) (counts_of xs) ≡ has_ended combinator xs
ended-counts Trees.Unknown xs = either_ended xs
ended-counts Trees.FirstCompleted xs = either_ended xs
ended-counts Trees.AllCompleted xs = sym (never-ends xs)
ended-counts Trees.FirstSucceededOrAllFailed xs = ap not (none-succeeded xs) ∙ not-not (list_any is_succeeded xs)
ended-counts Trees.AllSucceededOrFirstFailed xs = ap not (none-failed xs) ∙ not-not (list_any is_failed xs)
ended-counts (Trees.AtLeast required) xs = ap is_completed (by-counts required xs)

first-state : (xs : List AwaitState) → list_any is_completed xs ≡ false → first_by ((counts_of xs).succeeded == 0) ((counts_of xs).failed == 0) ≡ first_completed xs
first-state xs quiet =
    let (a, b) = or-false (list_any is_succeeded xs) (list_any is_failed xs) (some-completed xs ∙ quiet) in
    ap₂ first_by (none-succeeded xs ∙ ap not a) (none-failed xs ∙ ap not b) ∙ sym (first-pending xs quiet)

-- and so is its state, where none has
pub state-counts : (combinator : Combinator) (xs : List AwaitState) → has_ended combinator xs ≡ false
    → state_by (node_kind combinator) (counts_of xs) ≡ combined_state combinator xs
state-counts Trees.Unknown xs quiet = first-state xs quiet
state-counts Trees.FirstCompleted xs quiet = first-state xs quiet
state-counts Trees.AllCompleted xs quiet = ap (λ (b : Bool). if b then Succeeded else Pending) (none-pending xs)
state-counts Trees.FirstSucceededOrAllFailed xs quiet =
    ap₂ (λ (a b : Bool). if a then (if b then Failed else Pending) else Succeeded) (none-succeeded xs ∙ ap not quiet) (none-pending xs ∙ completed-failed xs quiet)
    ∙ sym (ap (λ (a : Bool). if a then Succeeded else (if list_all is_failed xs then Failed else Pending)) quiet)
state-counts Trees.AllSucceededOrFirstFailed xs quiet =
    ap₂ (λ (a b : Bool). if a then (if b then Succeeded else Pending) else Failed) (none-failed xs ∙ ap not quiet) (none-pending xs ∙ completed-succeeded xs quiet)
    ∙ sym (ap (λ (a : Bool). if a then Failed else (if list_all is_succeeded xs then Succeeded else Pending)) quiet)
state-counts (Trees.AtLeast required) xs quiet = by-counts required xs

pub any-append : (test : FlatNode → Bool) (xs ys : List FlatNode) → list_any test (xs ++ ys) ≡ (list_any test xs || list_any test ys)
any-append test [] ys = refl
any-append test (x ∷ xs) ys = by_cases (test x) (any-append test xs ys)
  where
    by_cases : (b : Bool) → list_any test (xs ++ ys) ≡ (list_any test xs || list_any test ys) → (b || list_any test (xs ++ ys)) ≡ ((b || list_any test xs) || list_any test ys)
    by_cases true e = refl
    by_cases false e = e

-- what a leaf counts
pub leaf-state : (state : AwaitState) (handle : ℕ) → state_by (kinds.Leaf handle) (counts_of (state ∷ [])) ≡ state
leaf-state Pending handle = refl
leaf-state Succeeded handle = refl
leaf-state Failed handle = refl

module _ {Leaf : Type 0} (handle : Leaf → ℕ) (leaves : Leaf → AwaitState) where
  node-ended : (combinator : Combinator) (own flats states : List AwaitState) (rest some : Bool)
      → rest ≡ some → (some ≡ false → own ≡ states)
      → (is_ended (node_kind combinator) (counts_of own) || rest) ≡ (has_ended combinator states || some)
  node-ended combinator own flats states rest true e same = rw e (or_true (is_ended (node_kind combinator) (counts_of own)) ∙ sym (or_true (has_ended combinator states)))
  node-ended combinator own flats states rest false e same =
      ap₂ (λ (a b : Bool). a || b) (ended-counts combinator own ∙ ap (has_ended combinator) (same refl)) e

  mutual
    pub tree-ended : (place : ℕ) (parent : Option ℕ) (tree : AwaitTree Leaf) → list_any node_ended (flat_at handle leaves place parent tree) ≡ has_ended_node tree leaves
    tree-ended place parent (Single leaf) = refl
    tree-ended place parent (Combined combinator trees) =
        node-ended combinator (all_reckoned trees leaves) [] (child_states trees leaves)
        (list_any node_ended (flats_at handle leaves (place + 1) place trees)) (some_has_ended_node trees leaves)
        (trees-ended (place + 1) place trees) (trees-reckoned trees)

    pub trees-ended : (place parent : ℕ) (trees : AwaitTrees Leaf) → list_any node_ended (flats_at handle leaves place parent trees) ≡ some_has_ended_node trees leaves
    trees-ended place parent no_trees = refl
    trees-ended place parent (and_trees tree trees) =
        any-append node_ended (flat_at handle leaves place (Option.Some parent) tree) (flats_at handle leaves (place + size_of tree) parent trees)
        ∙ ap₂ (λ (a b : Bool). a || b) (tree-ended place (Option.Some parent) tree) (trees-ended (place + size_of tree) parent trees)

    pub tree-reckoned : (tree : AwaitTree Leaf) → has_ended_node tree leaves ≡ false → reckoned tree leaves ≡ await_state tree leaves
    tree-reckoned (Single leaf) quiet = refl
    tree-reckoned (Combined combinator trees) own =
        let (ends, quiet) = or-false (has_ended combinator (child_states trees leaves)) (some_has_ended_node trees leaves) own in
        ap (λ (xs : List AwaitState). state_by (node_kind combinator) (counts_of xs)) (trees-reckoned trees quiet) ∙ state-counts combinator (child_states trees leaves) ends

    pub trees-reckoned : (trees : AwaitTrees Leaf) → some_has_ended_node trees leaves ≡ false → all_reckoned trees leaves ≡ child_states trees leaves
    trees-reckoned no_trees quiet = refl
    trees-reckoned (and_trees tree trees) quiet =
        let (own, others) = or-false (has_ended_node tree leaves) (some_has_ended_node trees leaves) quiet in
        ap₂ (λ (x : AwaitState) (xs : List AwaitState). x ∷ xs) (tree-reckoned tree own) (trees-reckoned trees others)

  pub root-reckoned : (place : ℕ) (parent : Option ℕ) (tree : AwaitTree Leaf) → root_state (flat_at handle leaves place parent tree) ≡ reckoned tree leaves
  root-reckoned place parent (Single leaf) = leaf-state (leaves leaf) (handle leaf)
  root-reckoned place parent (Combined combinator trees) = refl

  -- whether a tree is awake is told by its counts
  pub tree-awake : (place : ℕ) (parent : Option ℕ) (tree : AwaitTree Leaf) → is_awake_flat (flat_at handle leaves place parent tree) ≡ is_awake tree leaves
  tree-awake place parent tree =
      ap₂ (λ (a b : Bool). a || b) (ap is_completed (root-reckoned place parent tree)) (tree-ended place parent tree)
      ∙ by_cases (has_ended_node tree leaves) (tree-reckoned tree)
    where
      by_cases : (b : Bool) → (b ≡ false → reckoned tree leaves ≡ await_state tree leaves) → (is_completed (reckoned tree leaves) || b) ≡ (is_completed (await_state tree leaves) || b)
      by_cases true same = or_true (is_completed (reckoned tree leaves)) ∙ sym (or_true (is_completed (await_state tree leaves)))
      by_cases false same = ap (λ (x : AwaitState). is_completed x || false) (same refl)
