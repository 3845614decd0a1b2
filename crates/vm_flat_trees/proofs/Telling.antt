-- Leaves of one id are told one by one.
use Rattle.std.proofs.Common.{◌≡◌, refl, sym, ap, ap₂, ◌∙◌, subst, ℕ, zero, suc, ◌+◌, ◌==◌, eq-eqb, ne_eqb, add-one, arith, Bool, true, false, ◌||◌, if◌then◌else◌, List, [], ◌∷◌, ◌++◌, length, map, Option, Some, None, ◌⊎◌, inl, inr, slice_get, slice_set}
use Rattle.std.proofs.lemmas.List.{map-append}
use Rattle.journal_model.specs.AwaitTree.{AwaitState, Pending, Succeeded, Failed, AwaitTree, AwaitTrees, Single, Combined, no_trees, and_trees, is_completed, is_awake}
use Rattle.journal_model.specs.PrunedTrees.{earlier_or_later}
use Rattle.journal_laws.proofs.Leaving.{or-true_left, or-true_right, awake-more}
use Rattle.vm_flat_trees.specs.declared.node.Kind.TheVariants as kinds
use Rattle.vm_flat_trees.specs.declared.node.FlatNode.{FlatNode}
use Rattle.vm_flat_trees.specs.Counts.{counts_of, state_by, node_kind}
use Rattle.vm_flat_trees.specs.Flat.{size_of, flat_at, flats_at, flat_of, node_state, is_awake_flat, all_reckoned}
use Rattle.vm_flat_trees.specs.ChildCounts.{bare, come_to, is_leaf, IsWay}
use Rattle.vm_flat_trees.specs.LeafDelivery.{IsPendingLeaf, Sleeps, Climbs}
use Rattle.vm_flat_trees.specs.NotificationDelivery.{sites, all_sites, place_at, places_of, brought, CanHear}
use Rattle.vm_flat_trees.proofs.Reckoning.{leaf-state, tree-awake}
use Rattle.vm_flat_trees.proofs.Standing.{flat-length, tree-settled, flat-ordered, same-settled}
use Rattle.vm_flat_trees.proofs.Placing.{Placed, handle_in, placed, IsPlaced, AllPlaced, EachLeaf, EachLeaves, each-leaf, each-leaves, is-placed, flat-placed, sites-placed, flat-same, get-left, get-right, tree-told}

abbrev pub EachSite : (ℕ × ℕ → Type 0) → List (ℕ × ℕ) → Type 0
EachSite holds [] = Unit {0}
EachSite holds (site ∷ rest) = holds site × EachSite holds rest

each-append : (holds : ℕ × ℕ → Type 0) (xs ys : List (ℕ × ℕ)) → EachSite holds xs → EachSite holds ys → EachSite holds (xs ++ ys)
each-append holds [] ys one other = other
each-append holds (x ∷ xs) ys one other = (one.0, each-append holds xs ys one.1 other)

each-at : (holds : ℕ × ℕ → Type 0) (xs : List (ℕ × ℕ)) (k : ℕ) (site : ℕ × ℕ) → EachSite holds xs → slice_get xs k ≡ Some site → holds site
each-at holds [] k site each there = cc
each-at holds (x ∷ xs) zero site each there = let is : x ≡ site = cc in subst holds is each.0
each-at holds (x ∷ xs) (suc k) site each there = each-at holds xs k site each.1 there

abbrev pub is_among : ℕ → List ℕ → Bool
is_among place [] = false
is_among place (one ∷ others) = (one == place) || is_among place others

among-append : (place : ℕ) (xs ys : List ℕ) → is_among place (xs ++ ys) ≡ (is_among place xs || is_among place ys)
among-append place [] ys = refl
among-append place (x ∷ xs) ys = by_cases (x == place) (among-append place xs ys)
  where
    by_cases : (b : Bool) → is_among place (xs ++ ys) ≡ (is_among place xs || is_among place ys) → (b || is_among place (xs ++ ys)) ≡ ((b || is_among place xs) || is_among place ys)
    by_cases true e = refl
    by_cases false e = e

-- what stands in a vector at the place of a leaf
pub record Site (whole : List FlatNode) (states : Placed → AwaitState) (test : ℕ → Bool) (site : ℕ × ℕ) : Type 0 where
  pub handle : ℕ
  pub node : FlatNode
  pub there : slice_get whole site.0 ≡ Some node
  pub kind : node.kind ≡ kinds.Leaf handle
  pub counts : node.counts ≡ counts_of (states (handle, site.0) ∷ [])
  pub passes : test handle ≡ true
  pub way : IsWay whole (Some site.0) site.1

-- these nodes stand there from this place on
abbrev Holds : List FlatNode → ℕ → List FlatNode → Type 0
Holds whole place nodes = (k : ℕ) (node : FlatNode) → slice_get nodes k ≡ Some node → slice_get whole (place + k) ≡ Some node

holds-rest : (whole : List FlatNode) (place : ℕ) (x : FlatNode) (xs : List FlatNode) → Holds whole place (x ∷ xs) → Holds whole (place + 1) xs
holds-rest whole place x xs holds = λ k node there. subst (λ (p : ℕ). slice_get whole p ≡ Some node) (omega arith) (holds (suc k) node there)

module _ (whole : List FlatNode) (states : Placed → AwaitState) (test : ℕ → Bool) where
  mutual
    tree-sites : (place depth : ℕ) (parent : Option ℕ) (tree : AwaitTree Placed) → IsPlaced place tree → Holds whole place (flat_at handle_in states place parent tree) → IsWay whole parent depth
        → EachSite (Site whole states test) (sites (λ leaf. test (handle_in leaf)) place (depth + 1) tree)
    tree-sites place depth parent (Single (handle, at)) is holds way =
        let own : FlatNode = record { kind = kinds.Leaf handle; parent = parent; counts = counts_of (states (handle, at) ∷ []) } in
        let there : slice_get whole place ≡ Some own = subst (λ (p : ℕ). slice_get whole p ≡ Some own) (omega arith) (holds 0 own refl) in
        by_test (test handle) (λ passes. record {
          handle = handle;
          node = own;
          there = there;
          kind = refl;
          counts = ap (λ (p : ℕ). counts_of (states (handle, p) ∷ [])) is;
          passes = passes;
          way = subst (IsWay whole (Some place)) (sym (add-one depth)) (own, there, way);
        })
      where
        by_test : (b : Bool) → (b ≡ true → Site whole states test (place, depth + 1)) → EachSite (Site whole states test) (if b then (place, depth + 1) ∷ [] else [])
        by_test true site = (site refl, tt)
        by_test false site = tt
    tree-sites place depth parent (Combined combinator trees) is holds way =
        let root : FlatNode = record { kind = node_kind combinator; parent = parent; counts = counts_of (all_reckoned trees states) } in
        let there : slice_get whole place ≡ Some root = subst (λ (p : ℕ). slice_get whole p ≡ Some root) (omega arith) (holds 0 root refl) in
        trees-sites (place + 1) (depth + 1) place trees is (holds-rest whole place root (flats_at handle_in states (place + 1) place trees) holds)
        (subst (IsWay whole (Some place)) (sym (add-one depth)) (root, there, way))

    trees-sites : (place depth parent : ℕ) (trees : AwaitTrees Placed) → AllPlaced place trees → Holds whole place (flats_at handle_in states place parent trees) → IsWay whole (Some parent) depth
        → EachSite (Site whole states test) (all_sites (λ leaf. test (handle_in leaf)) place (depth + 1) trees)
    trees-sites place depth parent no_trees are holds way = tt
    trees-sites place depth parent (and_trees tree trees) are holds way =
        each-append (Site whole states test) (sites (λ leaf. test (handle_in leaf)) place (depth + 1) tree) (all_sites (λ leaf. test (handle_in leaf)) (place + size_of tree) (depth + 1) trees)
        (tree-sites place depth (Some parent) tree are.0
        (λ k node there. holds k node (get-left (flat_at handle_in states place (Some parent) tree) (flats_at handle_in states (place + size_of tree) parent trees) k node there)) way)
        (trees-sites (place + size_of tree) depth parent trees are.1
        (λ k node there. let long = flat-length handle_in states place (Some parent) tree in
        subst (λ (p : ℕ). slice_get whole p ≡ Some node) (omega (arith, long))
        (holds (length (flat_at handle_in states place (Some parent) tree) + k) node
        (get-right (flat_at handle_in states place (Some parent) tree) (flats_at handle_in states (place + size_of tree) parent trees) k (length (flat_at handle_in states place (Some parent) tree) + k) refl ∙ there))) way)

-- each leaf that passes is among those that are told
among-left : (place : ℕ) (xs ys : List ℕ) → is_among place xs ≡ true → is_among place (xs ++ ys) ≡ true
among-left place xs ys e = among-append place xs ys ∙ or-true_left (is_among place xs) (is_among place ys) e

among-right : (place : ℕ) (xs ys : List ℕ) → is_among place ys ≡ true → is_among place (xs ++ ys) ≡ true
among-right place xs ys e = among-append place xs ys ∙ or-true_right (is_among place xs) (is_among place ys) e

module _ (test : ℕ → Bool) where
  abbrev Told : List ℕ → Placed → Type 0
  Told places leaf = test leaf.0 ≡ true → is_among leaf.1 places ≡ true

  mutual
    tree-among : (place depth : ℕ) (tree : AwaitTree Placed) → IsPlaced place tree → EachLeaf (Told (map place_at (sites (λ leaf. test (handle_in leaf)) place depth tree))) tree
    tree-among place depth (Single (handle, at)) is = by_test (test handle)
      where
        by_test : (b : Bool) → b ≡ true → is_among at (map place_at (if b then (place, depth) ∷ [] else [])) ≡ true
        by_test true e = or-true_left (place == at) false (eq-eqb place at (sym is))
        by_test false e = cc
    tree-among place depth (Combined combinator trees) is = trees-among (place + 1) (depth + 1) trees is

    trees-among : (place depth : ℕ) (trees : AwaitTrees Placed) → AllPlaced place trees → EachLeaves (Told (map place_at (all_sites (λ leaf. test (handle_in leaf)) place depth trees))) trees
    trees-among place depth no_trees are = tt
    trees-among place depth (and_trees tree trees) are =
        let xs = sites (λ (leaf : Placed). test (handle_in leaf)) place depth tree in
        let ys = all_sites (λ (leaf : Placed). test (handle_in leaf)) (place + size_of tree) depth trees in
        let both = map-append place_at xs ys in (
          each-leaf (Told (map place_at xs)) (Told (map place_at (xs ++ ys))) (λ leaf told passes. ap (is_among leaf.1) both ∙ among-left leaf.1 (map place_at xs) (map place_at ys) (told passes))
              tree (tree-among place depth tree are.0),
          each-leaves (Told (map place_at ys)) (Told (map place_at (xs ++ ys))) (λ leaf told passes. ap (is_among leaf.1) both ∙ among-right leaf.1 (map place_at xs) (map place_at ys) (told passes))
              trees (trees-among (place + size_of tree) depth trees are.1),
        )

module _ (tree : AwaitTree ℕ) (leaves : ℕ → AwaitState) (test : ℕ → Bool) (state : AwaitState) (done : is_completed state ≡ true) where
  abbrev pub later : ℕ → AwaitState
  later = earlier_or_later leaves (brought test state)

  -- what leaves have come to where those at these places were told
  abbrev pub so_far : List ℕ → Placed → AwaitState
  so_far told leaf = if is_among leaf.1 told then later leaf.0 else leaves leaf.0

  abbrev pub flat_now : List ℕ → List FlatNode
  flat_now told = flat_at handle_in (so_far told) 0 None (placed 0 tree)

  pub record Telling (told : List ℕ) (nodes : List FlatNode) : Type 0 where
    pub flat : nodes ≡ flat_now told
    pub asleep : is_awake_flat nodes ≡ false

  pub begins : (nodes : List FlatNode) (places : List ℕ) → CanHear nodes places tree leaves test → Telling [] nodes
  begins nodes places can = record {
    flat = can.flat ∙ sym (flat-placed leaves 0 None tree);
    asleep = ap is_awake_flat can.flat ∙ tree-awake (λ handle. handle) leaves 0 None tree ∙ can.asleep;
  }

  pub sleeps-now : (told : List ℕ) (nodes : List FlatNode) → Telling told nodes → Sleeps nodes
  sleeps-now told nodes telling = rw telling.flat (record {
    settled = tree-settled handle_in (so_far told) 0 None (placed 0 tree);
    ordered = flat-ordered handle_in (so_far told) (placed 0 tree);
    asleep = ap is_awake_flat (sym telling.flat) ∙ telling.asleep;
  })

  pub site-now : (told : List ℕ) (nodes : List FlatNode) (k : ℕ) (site : ℕ × ℕ) → Telling told nodes → slice_get (sites test 0 1 tree) k ≡ Some site → Site nodes (so_far told) test site
  site-now told nodes k site telling there =
      each-at (Site nodes (so_far told) test) (sites test 0 1 tree) k site
      (subst (EachSite (Site nodes (so_far told) test)) (sites-placed test 0 1 tree)
      (tree-sites nodes (so_far told) test 0 0 None (placed 0 tree) (is-placed 0 tree)
      (λ i node e. ap (λ (ns : List FlatNode). slice_get ns (0 + i)) telling.flat ∙ ap (slice_get (flat_now told)) (omega arith) ∙ e) refl)) there

  site-state : (told : List ℕ) (nodes : List FlatNode) (site : ℕ × ℕ) (at : Site nodes (so_far told) test site) → node_state at.node ≡ so_far told (at.handle, site.0)
  site-state told nodes site at =
      ap₂ state_by at.kind at.counts ∙ leaf-state (so_far told (at.handle, site.0)) at.handle

  is-pending : (s : AwaitState) → is_completed s ≡ false → s ≡ Pending
  is-pending Pending e = refl
  is-pending Succeeded e = cc
  is-pending Failed e = cc

  pub pending-leaf : (told : List ℕ) (nodes : List FlatNode) (site : ℕ × ℕ) (at : Site nodes (so_far told) test site) → is_completed (node_state at.node) ≡ false → IsPendingLeaf nodes site.0
  pending-leaf told nodes site at waits = record { node = at.node; there = at.there; leaf = ap is_leaf at.kind; waits = is-pending (node_state at.node) waits }

  -- a leaf that was told
  later-completed : (handle : ℕ) → test handle ≡ true → is_completed (later handle) ≡ true
  later-completed handle passes = by_cases (is_completed (leaves handle)) refl
    where
      by_cases : (b : Bool) → is_completed (leaves handle) ≡ b → is_completed (if b then leaves handle else brought test state handle) ≡ true
      by_cases true e = e
      by_cases false e = rw passes done

  -- where it waited it is told what is brought, and else nothing new
  told-pending : (told : List ℕ) (handle place : ℕ) → test handle ≡ true → is_completed (so_far told (handle, place)) ≡ false → later handle ≡ state
  told-pending told handle place passes waits = by_cases (is_among place told) waits
    where
      by_cases : (b : Bool) → is_completed (if b then later handle else leaves handle) ≡ false → later handle ≡ state
      by_cases true e = let wrong = later-completed handle passes in cc
      by_cases false e = rw (e, passes) refl

  told-completed : (told : List ℕ) (handle place : ℕ) → is_completed (so_far told (handle, place)) ≡ true → later handle ≡ so_far told (handle, place)
  told-completed told handle place completed = by_cases (is_among place told) completed
    where
      by_cases : (b : Bool) → is_completed (if b then later handle else leaves handle) ≡ true → later handle ≡ (if b then later handle else leaves handle)
      by_cases true e = refl
      by_cases false e = rw e refl

  more-here : (told : List ℕ) (handle place : ℕ) → so_far (told ++ place ∷ []) (handle, place) ≡ later handle
  more-here told handle place =
      ap (λ (b : Bool). if b then later handle else leaves handle) (among-right place told (place ∷ []) (or-true_left (place == place) false (eq-eqb place place refl)))

  more-elsewhere : (told : List ℕ) (place : ℕ) (one : Placed) → (one.1 ≡ place → ⊥) → so_far told one ≡ so_far (told ++ place ∷ []) one
  more-elsewhere told place one other =
      ap (λ (b : Bool). if b then later one.0 else leaves one.0)
      (sym (among-append one.1 told (place ∷ []) ∙ ap (λ (b : Bool). is_among one.1 told || (b || false)) (ne_eqb place one.1 (λ e. other (sym e))) ∙ or-nothing (is_among one.1 told)))
    where
      or-nothing : (b : Bool) → (b || (false || false)) ≡ b
      or-nothing true = refl
      or-nothing false = refl

  -- the vector behind one more leaf
  one-told : (told : List ℕ) (nodes : List FlatNode) (site : ℕ × ℕ) (at : Site nodes (so_far told) test site) (brings : AwaitState) → Telling told nodes → later at.handle ≡ brings
      → map bare (slice_set nodes site.0 (come_to brings at.node)) ≡ map bare (flat_now (told ++ site.0 ∷ []))
  one-told told nodes site at brings telling is =
      ap (λ (ns : List FlatNode). map bare (slice_set ns site.0 (come_to brings at.node))) telling.flat
      ∙ tree-told (so_far told) (so_far (told ++ site.0 ∷ [])) brings site.0 at.node (ap is_leaf at.kind)
      (λ handle kind. let same_kind : kinds.Leaf at.handle ≡ kinds.Leaf handle = sym at.kind ∙ kind in
      let same : at.handle ≡ handle = cc in more-here told handle site.0 ∙ ap later (sym same) ∙ is)
      (λ one other. more-elsewhere told site.0 one other)
      0 None (placed 0 tree) site.0 (is-placed 0 tree) (omega arith) (ap (λ (ns : List FlatNode). slice_get ns site.0) (sym telling.flat) ∙ at.there)

  same-set : (xs : List FlatNode) (k : ℕ) (node : FlatNode) → slice_get xs k ≡ Some node → slice_set xs k node ≡ xs
  same-set [] k node there = refl
  same-set (x ∷ xs) zero node there = let is : x ≡ node = cc in ap (λ (n : FlatNode). n ∷ xs) (sym is)
  same-set (x ∷ xs) (suc k) node there = ap (λ (ns : List FlatNode). x ∷ ns) (same-set xs k node there)

  -- a leaf that was completed stays
  pub passes-over : (told : List ℕ) (nodes : List FlatNode) (site : ℕ × ℕ) (at : Site nodes (so_far told) test site) → Telling told nodes → is_completed (node_state at.node) ≡ true
      → Telling (told ++ site.0 ∷ []) nodes
  passes-over told nodes site at telling completed =
      let was : is_completed (so_far told (at.handle, site.0)) ≡ true = ap is_completed (sym (site-state told nodes site at)) ∙ completed in
      let same : come_to (so_far told (at.handle, site.0)) at.node ≡ at.node = ap (λ (counts : _). let n : FlatNode = record { kind = at.node.kind; parent = at.node.parent; counts = counts } in n) (sym at.counts) in
      let bare_same : map bare nodes ≡ map bare (flat_now (told ++ site.0 ∷ [])) =
      ap (map bare) (sym (ap (slice_set nodes site.0) same ∙ same-set nodes site.0 at.node at.there))
      ∙ one-told told nodes site at (so_far told (at.handle, site.0)) telling (told-completed told at.handle site.0 was) in
      record {
        flat = same-settled 0 nodes (flat_now (told ++ site.0 ∷ [])) bare_same ((sleeps-now told nodes telling).settled) (tree-settled handle_in (so_far (told ++ site.0 ∷ [])) 0 None (placed 0 tree));
        asleep = telling.asleep;
      }

  -- one that waited is told
  pub then-flat : (told : List ℕ) (nodes : List FlatNode) (site : ℕ × ℕ) (at : Site nodes (so_far told) test site) (after : List FlatNode) (wakes : Bool) → Telling told nodes
      → is_completed (node_state at.node) ≡ false → Climbs state nodes site.0 after wakes → after ≡ flat_now (told ++ site.0 ∷ [])
  then-flat told nodes site at after wakes telling waits climbs =
      let was : is_completed (so_far told (at.handle, site.0)) ≡ false = ap is_completed (sym (site-state told nodes site at)) ∙ waits in
      same-settled 0 after (flat_now (told ++ site.0 ∷ []))
      (climbs.bare_is at.node at.there ∙ one-told told nodes site at state telling (told-pending told at.handle site.0 at.passes was))
      climbs.settled (tree-settled handle_in (so_far (told ++ site.0 ∷ [])) 0 None (placed 0 tree))

  pub tells-on : (told : List ℕ) (nodes : List FlatNode) (site : ℕ × ℕ) (at : Site nodes (so_far told) test site) (after : List FlatNode) (wakes : Bool) → Telling told nodes
      → is_completed (node_state at.node) ≡ false → Climbs state nodes site.0 after wakes → wakes ≡ false → Telling (told ++ site.0 ∷ []) after
  tells-on told nodes site at after wakes telling waits climbs asleep = record {
    flat = then-flat told nodes site at after wakes telling waits climbs;
    asleep = sym climbs.awake ∙ asleep;
  }

  -- what is awake by some of the leaves is awake by all
  pub wakes-all : (told : List ℕ) → is_awake_flat (flat_now told) ≡ true → is_awake tree later ≡ true
  wakes-all told awake =
      sym (tree-awake (λ handle. handle) later 0 None tree) ∙ ap is_awake_flat (sym (flat-placed later 0 None tree)) ∙ tree-awake handle_in (λ leaf. later leaf.0) 0 None (placed 0 tree)
      ∙ awake-more (so_far told) (λ leaf. later leaf.0) (λ leaf. stays leaf) (placed 0 tree) (sym (tree-awake handle_in (so_far told) 0 None (placed 0 tree)) ∙ awake)
    where
      stays : (leaf : Placed) → (so_far told leaf ≡ Pending) ⊎ (later leaf.0 ≡ so_far told leaf)
      stays leaf = by_cases (is_completed (so_far told leaf)) refl
        where
          by_cases : (b : Bool) → is_completed (so_far told leaf) ≡ b → (so_far told leaf ≡ Pending) ⊎ (later leaf.0 ≡ so_far told leaf)
          by_cases true e = inr (told-completed told leaf.0 leaf.1 e)
          by_cases false e = inl (is-pending (so_far told leaf) e)

  -- all are told
  pub all-told : (nodes : List FlatNode) → Telling (places_of test tree) nodes → (nodes ≡ flat_of tree later) × (is_awake tree later ≡ false)
  all-told nodes telling =
      let same : nodes ≡ flat_of tree later = telling.flat ∙ flat-same (so_far (places_of test tree)) (λ leaf. later leaf.0) 0 None (placed 0 tree)
      (each-leaf (Told test (map place_at (sites (λ leaf. test (handle_in leaf)) 0 1 (placed 0 tree)))) (λ leaf. so_far (places_of test tree) leaf ≡ later leaf.0)
      (λ leaf told. at leaf told (test leaf.0) refl) (placed 0 tree) (tree-among test 0 1 (placed 0 tree) (is-placed 0 tree)))
      ∙ flat-placed later 0 None tree in
      (same, sym (tree-awake (λ handle. handle) later 0 None tree) ∙ ap is_awake_flat (sym same) ∙ telling.asleep)
    where
      at : (leaf : Placed) → Told test (map place_at (sites (λ leaf. test (handle_in leaf)) 0 1 (placed 0 tree))) leaf → (b : Bool) → test leaf.0 ≡ b → so_far (places_of test tree) leaf ≡ later leaf.0
      at leaf told true passes =
          let among : is_among leaf.1 (places_of test tree) ≡ true = ap (λ (xs : List (ℕ × ℕ)). is_among leaf.1 (map place_at xs)) (sym (sites-placed test 0 1 tree)) ∙ told passes in
          rw among refl
      at leaf told false fails = by_cases (is_among leaf.1 (places_of test tree)) (is_completed (leaves leaf.0)) refl
        where
          by_cases : (b c : Bool) → is_completed (leaves leaf.0) ≡ c
              → (if b then later leaf.0 else leaves leaf.0) ≡ (if c then leaves leaf.0 else brought test state leaf.0)
          by_cases true c e = ap (λ (d : Bool). if d then leaves leaf.0 else brought test state leaf.0) e
          by_cases false true e = refl
          by_cases false false e = rw fails (is-pending (leaves leaf.0) e)
