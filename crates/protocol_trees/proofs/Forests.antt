-- A node's children, as lists: their states, whether a node in them has ended, and their sizes.
use Rattle.std.proofs.Common.{◌≡◌, ℕ, zero, suc, ◌+◌, ◌<◌, ◌≤◌, Bool, false, ◌||◌, List, [], ◌∷◌, ◌++◌, map, take, Some, refl, sym, ap, ◌∙◌, arith, append_assoc}
use Rattle.std.specs.List.{list_any, slice_get}
use Rattle.std.proofs.lemmas.List.{map-append}
use Rattle.std.proofs.lemmas.List.Folds.{list_any-append}
use Rattle.journal_model.specs.AwaitTree as Trees
use Rattle.protocol_trees.specs.Shape.{state_meant, shape_combinator, forest, node, IsLeaf, IsShaped}
use Rattle.protocol_trees.specs.Tally.{looked_in, has_ended_in, added, Tallies}
use Rattle.protocol_trees.specs.Look.{IsLooked}
use Rattle.protocol_trees.specs.declared.tree.AwaitTreeShape.{AwaitTreeShape}
use Rattle.protocol_trees.specs.declared.tree.AwaitTreeShape.TheVariants as shapes
use Rattle.protocol_trees.specs.declared.tally.Tally.{Tally}
use Rattle.protocol_trees.specs.declared.tally.Looked.{Looked}
use Rattle.protocol_trees.specs.declared.tree.AwaitState.{AwaitState}
use Rattle.protocol_trees.proofs.Tallying.{state_of_node, at_least_ended, tallied, one_more, or_nothing}

-- how many nodes a tree has
abbrev mutual
  pub tree_size : {Meant : Type 0} → Trees.AwaitTree Meant → ℕ
  tree_size (Trees.Single leaf) = zero
  tree_size (Trees.Combined combinator trees) = suc (trees_size trees)

  pub trees_size : {Meant : Type 0} → Trees.AwaitTrees Meant → ℕ
  trees_size Trees.no_trees = zero
  trees_size (Trees.and_trees tree trees) = tree_size tree + trees_size trees

module _ {Meant : Type 0} where
  over : List Meant → List (Trees.AwaitTree Meant) → Trees.AwaitTrees Meant
  over leaves children = forest (map (λ leaf. Trees.Single leaf) leaves ++ children)

  in_forest : (trees : List (Trees.AwaitTree Meant)) (i : ℕ) (child : Trees.AwaitTree Meant) → slice_get trees i ≡ Some child → tree_size child ≤ trees_size (forest trees)
  in_forest [] i child e = absurd cc
  in_forest (tree ∷ trees) zero child e = let same : tree ≡ child = cc in rw (sym same) (omega arith)
  in_forest (tree ∷ trees) (suc i) child e = let within = in_forest trees i child e in omega (within, arith)

  leaves_are_small : (leaves : List Meant) (children : List (Trees.AwaitTree Meant)) → trees_size (forest (map (λ leaf. Trees.Single leaf) leaves ++ children)) ≡ trees_size (forest children)
  leaves_are_small [] children = refl
  leaves_are_small (leaf ∷ leaves) children = let rest = leaves_are_small leaves children in omega (rest, arith)

  in_node : (combinator : Trees.Combinator) (leaves : List Meant) (children : List (Trees.AwaitTree Meant)) (tree : Trees.AwaitTree Meant) (i : ℕ) (child : Trees.AwaitTree Meant) → tree ≡ node combinator leaves children → slice_get children i ≡ Some child → tree_size child < tree_size tree
  in_node combinator leaves children tree i child is e =
      let within = in_forest children i child e in
      let small = leaves_are_small leaves children in
      rw is (omega (within, small, arith))

  pub child_smaller : (shape : AwaitTreeShape) (leaves : List Meant) (children : List (Trees.AwaitTree Meant)) (tree : Trees.AwaitTree Meant) (i : ℕ) (child : Trees.AwaitTree Meant) → IsShaped shape leaves children tree → slice_get children i ≡ Some child → tree_size child < tree_size tree
  child_smaller shapes.Single leaves children tree i child is e = let none = sym e ∙ ap (λ xs. slice_get xs i) is.children_are in absurd cc
  child_smaller shapes.FirstCompleted leaves children tree i child is e = in_node Trees.FirstCompleted leaves children tree i child is e
  child_smaller shapes.AllCompleted leaves children tree i child is e = in_node Trees.AllCompleted leaves children tree i child is e
  child_smaller shapes.FirstSucceededOrAllFailed leaves children tree i child is e = in_node Trees.FirstSucceededOrAllFailed leaves children tree i child is e
  child_smaller shapes.AllSucceededOrFirstFailed leaves children tree i child is e = in_node Trees.AllSucceededOrFirstFailed leaves children tree i child is e
  child_smaller shapes.Unknown leaves children tree i child is e = in_node Trees.Unknown leaves children tree i child is e
  child_smaller (shapes.AtLeast required) leaves children tree i child is e = in_node (Trees.AtLeast required) leaves children tree i child is e

  module _ (states : Meant → Trees.AwaitState) where
    pub leaf_states : List Meant → List Trees.AwaitState
    leaf_states leaves = map states leaves

    children_states : (children : List (Trees.AwaitTree Meant)) → Trees.child_states (forest children) states ≡ map (λ tree. Trees.await_state tree states) children
    children_states [] = refl
    children_states (tree ∷ trees) = ap (λ found. Trees.await_state tree states ∷ found) (children_states trees)

    all_states : (leaves : List Meant) (children : List (Trees.AwaitTree Meant)) → Trees.child_states (forest (map (λ leaf. Trees.Single leaf) leaves ++ children)) states ≡ map states leaves ++ map (λ tree. Trees.await_state tree states) children
    all_states [] children = children_states children
    all_states (leaf ∷ leaves) children = ap (λ found. states leaf ∷ found) (all_states leaves children)

    children_ended : (children : List (Trees.AwaitTree Meant)) → Trees.some_has_ended_node (forest children) states ≡ list_any (λ tree. Trees.has_ended_node tree states) children
    children_ended [] = refl
    children_ended (tree ∷ trees) = ap (λ b. Trees.has_ended_node tree states || b) (children_ended trees)

    all_ended : (leaves : List Meant) (children : List (Trees.AwaitTree Meant)) → Trees.some_has_ended_node (forest (map (λ leaf. Trees.Single leaf) leaves ++ children)) states ≡ list_any (λ tree. Trees.has_ended_node tree states) children
    all_ended [] children = children_ended children
    all_ended (leaf ∷ leaves) children = all_ended leaves children

    looked_node : (shape : AwaitTreeShape) (leaves : List Meant) (children : List (Trees.AwaitTree Meant)) (tally : Tally)
        → Tallies shape tally (map states leaves ++ map (λ tree. Trees.await_state tree states) children) (list_any (λ tree. Trees.has_ended_node tree states) children)
        → has_ended_in shape tally ≡ (Trees.has_ended (shape_combinator shape) (map states leaves ++ map (λ tree. Trees.await_state tree states) children) || list_any (λ tree. Trees.has_ended_node tree states) children)
        → (state_meant (looked_in shape tally).state ≡ Trees.await_state (node (shape_combinator shape) leaves children) states)
        × (has_ended_in shape tally ≡ Trees.has_ended_node (node (shape_combinator shape) leaves children) states)
    looked_node shape leaves children tally h ended = (
      state_of_node shape tally _ _ h ∙ ap (λ found. Trees.combined_state (shape_combinator shape) found) (sym (all_states leaves children)),
      ended ∙ ap (λ found. Trees.has_ended (shape_combinator shape) found || list_any (λ tree. Trees.has_ended_node tree states) children) (sym (all_states leaves children))
          ∙ ap (λ b. Trees.has_ended (shape_combinator shape) (Trees.child_states (forest (map (λ leaf. Trees.Single leaf) leaves ++ children)) states) || b) (sym (all_ended leaves children)),
    )

    first_alone : (state : Trees.AwaitState) → Trees.first_completed (state ∷ []) ≡ state
    first_alone Trees.Pending = refl
    first_alone Trees.Succeeded = refl
    first_alone Trees.Failed = refl

    looked_leaf : (leaves : List Meant) (children : List (Trees.AwaitTree Meant)) (tree : Trees.AwaitTree Meant) (tally : Tally) (below : Bool) → IsLeaf leaves children tree
        → Tallies shapes.Single tally (map states leaves ++ map (λ tree. Trees.await_state tree states) children) below → IsLooked tree states (looked_in shapes.Single tally)
    looked_leaf leaves children tree tally below is h =
        let leaves_are = is.leaves_are in
        let children_are = is.children_are in
        let tree_is = is.tree_is in
        let first : state_meant tally.first_completed ≡ Trees.first_completed (states is.leaf ∷ []) =
        h.first ∙ ap (λ xs. Trees.first_completed (map states xs ++ map (λ tree. Trees.await_state tree states) children)) leaves_are ∙ ap (λ xs. Trees.first_completed (states is.leaf ∷ map (λ tree. Trees.await_state tree states) xs)) children_are in
        record {
          state = first ∙ first_alone (states is.leaf) ∙ ap (λ (t : Trees.AwaitTree Meant). Trees.await_state t states) (sym tree_is);
          ended = ap (λ (t : Trees.AwaitTree Meant). Trees.has_ended_node t states) (sym tree_is);
        }

    as_node : (shape : AwaitTreeShape) (tree : Trees.AwaitTree Meant) (leaves : List Meant) (children : List (Trees.AwaitTree Meant)) (tally : Tally)
        → tree ≡ node (shape_combinator shape) leaves children
        → Tallies shape tally (map states leaves ++ map (λ tree. Trees.await_state tree states) children) (list_any (λ tree. Trees.has_ended_node tree states) children)
        → has_ended_in shape tally ≡ (Trees.has_ended (shape_combinator shape) (map states leaves ++ map (λ tree. Trees.await_state tree states) children) || list_any (λ tree. Trees.has_ended_node tree states) children)
        → IsLooked tree states (looked_in shape tally)
    as_node shape tree leaves children tally is h ended = let both = looked_node shape leaves children tally h ended in record {
      state = both.0 ∙ ap (λ (t : Trees.AwaitTree Meant). Trees.await_state t states) (sym is);
      ended = both.1 ∙ ap (λ (t : Trees.AwaitTree Meant). Trees.has_ended_node t states) (sym is);
    }

    pub looked_whole : (shape : AwaitTreeShape) (leaves : List Meant) (children : List (Trees.AwaitTree Meant)) (tree : Trees.AwaitTree Meant) (tally : Tally) → IsShaped shape leaves children tree
        → Tallies shape tally (map states leaves ++ map (λ tree. Trees.await_state tree states) children) (list_any (λ tree. Trees.has_ended_node tree states) children) → IsLooked tree states (looked_in shape tally)
    looked_whole shapes.Single leaves children tree tally is h = looked_leaf leaves children tree tally _ is h
    looked_whole shapes.FirstCompleted leaves children tree tally is h = as_node shapes.FirstCompleted tree leaves children tally is h h.ended
    looked_whole shapes.AllCompleted leaves children tree tally is h = as_node shapes.AllCompleted tree leaves children tally is h h.ended
    looked_whole shapes.FirstSucceededOrAllFailed leaves children tree tally is h = as_node shapes.FirstSucceededOrAllFailed tree leaves children tally is h h.ended
    looked_whole shapes.AllSucceededOrFirstFailed leaves children tree tally is h = as_node shapes.AllSucceededOrFirstFailed tree leaves children tally is h h.ended
    looked_whole shapes.Unknown leaves children tree tally is h = as_node shapes.Unknown tree leaves children tally is h h.ended
    looked_whole (shapes.AtLeast required) leaves children tree tally is h = as_node (shapes.AtLeast required) tree leaves children tally is h (at_least_ended required tally _ _ h)

    -- one leaf more
    pub leaf_tallied : (shape : AwaitTreeShape) (tally result : Tally) (leaves : List Meant) (i : ℕ) (leaf : Meant) (state : AwaitState) → slice_get leaves i ≡ Some leaf → state_meant state ≡ states leaf
        → result ≡ added shape tally (record { state = state; has_ended = false }) → Tallies shape tally (map states (take i leaves)) false → Tallies shape result (map states (take (i + 1) leaves)) false
    leaf_tallied shape tally result leaves i leaf state there means is h =
        let list : map states (take (i + 1) leaves) ≡ map states (take i leaves) ++ state_meant state ∷ [] =
        ap (λ xs. map states xs) (one_more leaves i leaf there) ∙ map-append states (take i leaves) (leaf ∷ []) ∙ ap (λ found. map states (take i leaves) ++ found ∷ []) (sym means) in
        rw (is, list) (tallied shape tally (map states (take i leaves)) false (record { state = state; has_ended = false }) h)

    -- one tree more
    pub child_tallied : (shape : AwaitTreeShape) (tally result : Tally) (before : List Trees.AwaitState) (children : List (Trees.AwaitTree Meant)) (i : ℕ) (child : Trees.AwaitTree Meant) (looked : Looked) → slice_get children i ≡ Some child
        → IsLooked child states looked → result ≡ added shape tally looked
        → Tallies shape tally (before ++ map (λ tree. Trees.await_state tree states) (take i children)) (list_any (λ tree. Trees.has_ended_node tree states) (take i children))
        → Tallies shape result (before ++ map (λ tree. Trees.await_state tree states) (take (i + 1) children)) (list_any (λ tree. Trees.has_ended_node tree states) (take (i + 1) children))
    child_tallied shape tally result before children i child looked there means is h =
        let more = one_more children i child there in
        let list : before ++ map (λ tree. Trees.await_state tree states) (take (i + 1) children) ≡ (before ++ map (λ tree. Trees.await_state tree states) (take i children)) ++ state_meant looked.state ∷ [] =
        ap (λ xs. before ++ map (λ tree. Trees.await_state tree states) xs) more
        ∙ ap (λ xs. before ++ xs) (map-append (λ tree. Trees.await_state tree states) (take i children) (child ∷ []))
        ∙ ap (λ found. before ++ (map (λ tree. Trees.await_state tree states) (take i children) ++ found ∷ [])) (sym means.state)
        ∙ sym (append_assoc before (map (λ tree. Trees.await_state tree states) (take i children)) (state_meant looked.state ∷ [])) in
        let ended : list_any (λ tree. Trees.has_ended_node tree states) (take (i + 1) children) ≡ (list_any (λ tree. Trees.has_ended_node tree states) (take i children) || looked.has_ended) =
        ap (λ xs. list_any (λ tree. Trees.has_ended_node tree states) xs) more
        ∙ list_any-append (λ tree. Trees.has_ended_node tree states) (take i children) (child ∷ [])
        ∙ ap (λ b. list_any (λ tree. Trees.has_ended_node tree states) (take i children) || b) (sym (or_nothing (Trees.has_ended_node child states)) ∙ sym means.ended) in
        rw (is, list, ended) (tallied shape tally (before ++ map (λ tree. Trees.await_state tree states) (take i children)) (list_any (λ tree. Trees.has_ended_node tree states) (take i children)) looked h)
