-- A delivery goes from leaf to leaf.
use Rattle.std.proofs.Common.{◌≡◌, refl, sym, ap, ◌∙◌, subst, ℕ, zero, suc, ◌+◌, ◌*◌, ◌<◌, ◌≤◌, arith, Bool, true, false, List, [], ◌∷◌, ◌++◌, length, map, take, Option, Some, inl, inr, slice_get}
use Rattle.std.proofs.lemmas.List.{take_all}
use Rattle.journal_model.specs.AwaitTree.{AwaitState, AwaitTree, is_completed}
use Rattle.vm_flat_trees.specs.declared.node.FlatNode.{FlatNode}
use Rattle.vm_flat_trees.specs.Flat.{node_state, is_awake_flat}
use Rattle.vm_flat_trees.specs.ChildCounts.{is_leaf, IsWay}
use Rattle.vm_flat_trees.specs.LeafDelivery.{Sleeps}
use Rattle.vm_flat_trees.specs.NotificationDelivery.{sites, place_at, depth_at, total, places_of, CanHear, CanHearOf, Delivers, IsLeafAt, TellsOne}
use Rattle.vm_flat_trees.proofs.Telling.{Telling, Site, so_far, flat_now, begins, sleeps-now, site-now, passes-over, then-flat, tells-on, wakes-all, all-told}

get-map : (f : ℕ × ℕ → ℕ) (xs : List (ℕ × ℕ)) (k : ℕ) (y : ℕ) → slice_get (map f xs) k ≡ Some y → (site : ℕ × ℕ) × (slice_get xs k ≡ Some site) × (f site ≡ y)
get-map f [] k y there = cc
get-map f (x ∷ xs) zero y there = let is : f x ≡ y = cc in (x, refl, is)
get-map f (x ∷ xs) (suc k) y there = get-map f xs k y there

get-mapped : (f : ℕ × ℕ → ℕ) (xs : List (ℕ × ℕ)) (k : ℕ) (site : ℕ × ℕ) → slice_get xs k ≡ Some site → slice_get (map f xs) k ≡ Some (f site)
get-mapped f [] k site there = cc
get-mapped f (x ∷ xs) zero site there = let is : x ≡ site = cc in ap (λ (s : ℕ × ℕ). Some (f s)) is
get-mapped f (x ∷ xs) (suc k) site there = get-mapped f xs k site there

take-next : (xs : List ℕ) (k y : ℕ) → slice_get xs k ≡ Some y → take (suc k) xs ≡ take k xs ++ y ∷ []
take-next [] k y there = cc
take-next (x ∷ xs) zero y there = let is : x ≡ y = cc in ap (λ (n : ℕ). n ∷ []) is
take-next (x ∷ xs) (suc k) y there = ap (λ (ns : List ℕ). x ∷ ns) (take-next xs k y there)

total-append : (xs ys : List ℕ) → total (xs ++ ys) ≡ total xs + total ys
total-append [] ys = omega arith
total-append (x ∷ xs) ys = omega (arith, total-append xs ys)

total-take : (k : ℕ) (xs : List ℕ) → total (take k xs) ≤ total xs
total-take zero xs = omega arith
total-take (suc k) [] = omega arith
total-take (suc k) (x ∷ xs) = omega (arith, total-take k xs)

total-next : (xs : List ℕ) (k y : ℕ) → slice_get xs k ≡ Some y → total (take (suc k) xs) ≡ total (take k xs) + y
total-next xs k y there =
    ap total (take-next xs k y there) ∙ total-append (take k xs) (y ∷ []) ∙ ap (λ (n : ℕ). total (take k xs) + n) last
  where
    last : total (y ∷ []) ≡ y
    last = omega arith

-- so many of the places were told
pub record Sending (before : List FlatNode) (places : List ℕ) (state : AwaitState) (done : is_completed state ≡ true) (many : ℕ) (nodes : List FlatNode) (visits : ℕ) : Type 0 where
  pub telling : (tree : AwaitTree ℕ) (leaves : ℕ → AwaitState) (test : ℕ → Bool) → CanHear before places tree leaves test → Telling tree leaves test state done (take many places) nodes
  pub few : (tree : AwaitTree ℕ) (leaves : ℕ → AwaitState) (test : ℕ → Bool) → CanHear before places tree leaves test → visits ≤ total (take many (map depth_at (sites test 0 1 tree)))
  pub small : visits ≤ many * 18446744073709551616

module _ (before : List FlatNode) (places : List ℕ) (state : AwaitState) (done : is_completed state ≡ true) (of : CanHearOf before places) where
  pub none-sent : Sending before places state done 0 before 0
  none-sent = record {
    telling = λ tree leaves test can. begins tree leaves test state done before places can;
    few = λ tree leaves test can. omega arith;
    small = omega arith;
  }

  pub sleeps-on : (many : ℕ) (nodes : List FlatNode) (visits : ℕ) → Sending before places state done many nodes visits → Sleeps nodes
  sleeps-on many nodes visits sending = sleeps-now of.tree of.leaves of.test state done (take many places) nodes (sending.telling of.tree of.leaves of.test of.can)

  -- the site whose turn it is
  pub record Turn (tree : AwaitTree ℕ) (leaves : ℕ → AwaitState) (test : ℕ → Bool) (many place : ℕ) (nodes : List FlatNode) : Type 0 where
    pub depth : ℕ
    pub site : Site nodes (so_far tree leaves test state done (take many places)) test (place, depth)
    pub next : total (take (suc many) (map depth_at (sites test 0 1 tree))) ≡ total (take many (map depth_at (sites test 0 1 tree))) + depth

  pub turn : (tree : AwaitTree ℕ) (leaves : ℕ → AwaitState) (test : ℕ → Bool) (many place : ℕ) (nodes : List FlatNode) (visits : ℕ) → CanHear before places tree leaves test
      → Sending before places state done many nodes visits → slice_get places many ≡ Some place → Turn tree leaves test many place nodes
  turn tree leaves test many place nodes visits can sending there =
      let (site, at, is) = get-map place_at (sites test 0 1 tree) many place (ap (λ (ps : List ℕ). slice_get ps many) (sym can.places_are) ∙ there) in
      record {
        depth = site.1;
        site = subst (λ (p : ℕ). Site nodes (so_far tree leaves test state done (take many places)) test (p, site.1)) is
            (site-now tree leaves test state done (take many places) nodes many site (sending.telling tree leaves test can) at);
        next = total-next (map depth_at (sites test 0 1 tree)) many site.1 (get-mapped depth_at (sites test 0 1 tree) many site at);
      }

  pub leaf-on : (many place : ℕ) (nodes : List FlatNode) (visits : ℕ) → Sending before places state done many nodes visits → slice_get places many ≡ Some place → IsLeafAt nodes place
  leaf-on many place nodes visits sending there =
      let now = turn of.tree of.leaves of.test many place nodes visits of.can sending there in
      record { node = now.site.node; there = now.site.there; leaf = ap is_leaf now.site.kind }

  same-node : (nodes : List FlatNode) (place : ℕ) (a b : FlatNode) → slice_get nodes place ≡ Some a → slice_get nodes place ≡ Some b → a ≡ b
  same-node nodes place a b e f = let same : ◌≡◌ {A = Option FlatNode} (Some a) (Some b) = sym e ∙ f in cc

  -- what one more leaf leaves, for each tree
  one-sent : (tree : AwaitTree ℕ) (leaves : ℕ → AwaitState) (test : ℕ → Bool) (many place : ℕ) (nodes : List FlatNode) (visits : ℕ) (after : List FlatNode) (wakes : Bool) (more : ℕ)
      → CanHear before places tree leaves test → Sending before places state done many nodes visits → slice_get places many ≡ Some place → TellsOne state nodes place after wakes more → wakes ≡ false
      → Telling tree leaves test state done (take (suc many) places) after × (visits + more ≤ total (take (suc many) (map depth_at (sites test 0 1 tree))))
  one-sent tree leaves test many place nodes visits after wakes more can sending there (inl over) asleep =
      let now = turn tree leaves test many place nodes visits can sending there in
      let same = same-node nodes place over.node now.site.node over.there now.site.there in
      let telling = sending.telling tree leaves test can in
      let few = sending.few tree leaves test can in
      let long : 1 ≤ now.depth = some_way nodes place now.depth now.site.way in (
        rw (over.same, take-next places many place there)
            (passes-over tree leaves test state done (take many places) nodes (place, now.depth) now.site telling (ap (λ (n : FlatNode). is_completed (node_state n)) (sym same) ∙ over.completed)),
        omega (arith, few, over.one, now.next, long),
      )
    where
      some_way : (nodes : List FlatNode) (place depth : ℕ) → IsWay nodes (Some place) depth → 1 ≤ depth
      some_way nodes place zero way = absurd way
      some_way nodes place (suc depth) way = omega arith
  one-sent tree leaves test many place nodes visits after wakes more can sending there (inr comes) asleep =
      let now = turn tree leaves test many place nodes visits can sending there in
      let same = same-node nodes place comes.node now.site.node comes.there now.site.there in
      let telling = sending.telling tree leaves test can in
      let few = sending.few tree leaves test can in
      let less : more ≤ now.depth = comes.few now.depth now.site.way in (
        rw (take-next places many place there)
            (tells-on tree leaves test state done (take many places) nodes (place, now.depth) now.site after wakes telling
            (ap (λ (n : FlatNode). is_completed (node_state n)) (sym same) ∙ comes.waits) comes.climbs asleep),
        omega (arith, few, now.next, less),
      )

  few-more : (nodes after : List FlatNode) (place : ℕ) (wakes : Bool) (more : ℕ) → TellsOne state nodes place after wakes more → more ≤ place + 1
  few-more nodes after place wakes more (inl over) = omega (arith, over.one)
  few-more nodes after place wakes more (inr comes) = comes.small

  pub fits-on : (nodes after : List FlatNode) (many place visits : ℕ) (wakes : Bool) (more : ℕ) → Sending before places state done many nodes visits → TellsOne state nodes place after wakes more
      → place < 18446744073709551616 → visits + more ≤ (many + 1) * 18446744073709551616
  fits-on nodes after many place visits wakes more sending tells below = omega (arith, sending.small, few-more nodes after place wakes more tells)

  -- one more was told
  pub sends-on : (many next place : ℕ) (nodes : List FlatNode) (visits : ℕ) (after : List FlatNode) (wakes : Bool) (more : ℕ) → Sending before places state done many nodes visits
      → slice_get places many ≡ Some place → place < 18446744073709551616 → TellsOne state nodes place after wakes more → wakes ≡ false → next ≡ many + 1
      → Sending before places state done next after (visits + more)
  sends-on many next place nodes visits after wakes more sending there below tells asleep on =
      let is : next ≡ suc many = omega (arith, on) in
      rw is (record {
        telling = λ tree leaves test can. (one-sent tree leaves test many place nodes visits after wakes more can sending there tells asleep).0;
        few = λ tree leaves test can. (one-sent tree leaves test many place nodes visits after wakes more can sending there tells asleep).1;
        small = omega (arith, fits-on nodes after many place visits wakes more sending tells below);
      })

  -- the tree wakes
  pub wakes-then : (many place : ℕ) (nodes : List FlatNode) (visits : ℕ) (after : List FlatNode) (wakes : Bool) (more : ℕ) → Sending before places state done many nodes visits
      → slice_get places many ≡ Some place → TellsOne state nodes place after wakes more → wakes ≡ true → Delivers before places state after true (visits + more)
  wakes-then many place nodes visits after wakes more sending there (inl over) awake = λ tree leaves test can. absurd (wrong wakes over.asleep awake)
    where
      wrong : (b : Bool) → b ≡ false → b ≡ true → ⊥
      wrong b e f = cc
  wakes-then many place nodes visits after wakes more sending there (inr comes) awake = λ tree leaves test can.
      let now = turn tree leaves test many place nodes visits can sending there in
      let same = same-node nodes place comes.node now.site.node comes.there now.site.there in
      let telling = sending.telling tree leaves test can in
      let few = sending.few tree leaves test can in
      let less : more ≤ now.depth = comes.few now.depth now.site.way in
      let flat = then-flat tree leaves test state done (take many places) nodes (place, now.depth) now.site after wakes telling
      (ap (λ (n : FlatNode). is_completed (node_state n)) (sym same) ∙ comes.waits) comes.climbs in
      let so : is_awake_flat (flat_now tree leaves test state done (take many places ++ place ∷ [])) ≡ true = ap is_awake_flat (sym flat) ∙ sym comes.climbs.awake ∙ awake in
      let all = total-take (suc many) (map depth_at (sites test 0 1 tree)) in
      record {
        awake = sym (wakes-all tree leaves test state done (take many places ++ place ∷ []) so);
        flat = λ wrong. absurd (apart wrong);
        few = omega (arith, few, now.next, less, all);
      }
    where
      apart : true ≡ false → ⊥
      apart e = cc

  -- all were told
  pub all-sent : (many : ℕ) (nodes : List FlatNode) (visits : ℕ) → Sending before places state done many nodes visits → length places ≤ many → Delivers before places state nodes false visits
  all-sent many nodes visits sending end = λ tree leaves test can.
      let all : take many places ≡ places_of test tree = take_all many places end ∙ can.places_are in
      let (flat, asleep) = all-told tree leaves test state done nodes (subst (λ (ps : List ℕ). Telling tree leaves test state done ps nodes) all (sending.telling tree leaves test can)) in
      let few = sending.few tree leaves test can in
      record {
        awake = sym asleep;
        flat = λ e. flat;
        few = omega (arith, few, total-take many (map depth_at (sites test 0 1 tree)));
      }
