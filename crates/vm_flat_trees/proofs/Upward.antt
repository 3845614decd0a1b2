-- On the way from a leaf to the root.
use Rattle.std.proofs.Common.{◌≡◌, refl, sym, ap, ap₂, ◌∙◌, subst, ℕ, zero, suc, ◌+◌, ◌<◌, ◌≤◌, ◌==◌, ne_eqb, eq-eqb, arith, Bool, true, false, ◌||◌, if◌then◌else◌, List, [], ◌∷◌, length, map, Option, Some, None, slice_get, slice_set}
use Rattle.std.proofs.lemmas.List.{length-set}
use Rattle.std.specs.List.{list_any}
use Rattle.journal_model.specs.AwaitTree.{AwaitState, Pending, Succeeded, Failed, is_completed}
use Rattle.journal_laws.proofs.Leaving.{or-false}
use Rattle.vm_flat_trees.specs.declared.node.Kind.{Kind}
use Rattle.vm_flat_trees.specs.declared.node.Kind.TheVariants as kinds
use Rattle.vm_flat_trees.specs.declared.node.FlatNode.{FlatNode}
use Rattle.vm_flat_trees.specs.Counts.{counts_of}
use Rattle.vm_flat_trees.specs.Flat.{node_state, has_ended, root_state}
use Rattle.vm_flat_trees.specs.ChildCounts.{bare, inner_counts, Moves, unheard, Settling, StandsBefore, IsWay, visited, come_to, is_leaf}
use Rattle.vm_flat_trees.specs.LeafDelivery.{IsPendingLeaf, Sleeps, Climbs, ChangesNode, HasRoom}
use Rattle.vm_flat_trees.proofs.Reckoning.{leaf-state}
use Rattle.vm_flat_trees.proofs.ChildCounts.{same-unheard, visit-settles, heard-at}
use Rattle.vm_flat_trees.proofs.Visiting.{none-of, any-set, Waits, waits-at, heard-then, bare-visited, bare-set}

-- how far it is to the root at most
abbrev pub reach : Option ℕ → ℕ
reach None = 0
reach (Some place) = place + 1

-- whether the node at this place stands at `next` or before it
abbrev pub IsUpTo : Option ℕ → ℕ → Type 0
IsUpTo None i = ⊥
IsUpTo (Some place) i = i ≤ place

abbrev pub IsWithin : Option ℕ → ℕ → Type 0
IsWithin None many = Unit {0}
IsWithin (Some place) many = place < many

-- the root has come to what is behind the last step
abbrev pub IsRoot : Option ℕ → AwaitState → List FlatNode → Type 0
IsRoot None came nodes = root_state nodes ≡ came
IsRoot (Some place) came nodes = Unit {0}

pub record Climbing (before : List FlatNode) (leaf : ℕ) (state : AwaitState) (nodes : List FlatNode) (next : Option ℕ) (came : AwaitState) (visits : ℕ) (is_awake : Bool) : Type 0 where
  pub settling : Settling next came 0 nodes
  pub bare_is : (node : FlatNode) → slice_get before leaf ≡ Some node → map bare nodes ≡ map bare (slice_set before leaf (come_to state node))
  pub ended : is_awake ≡ list_any has_ended nodes
  pub untouched : (i : ℕ) → IsUpTo next i → slice_get nodes i ≡ slice_get before i
  pub within : IsWithin next (length nodes)
  pub root : IsRoot next came nodes
  pub way : (many : ℕ) → IsWay before (Some leaf) many → (rest : ℕ) × IsWay before next rest × (visits + rest ≡ many)
  pub small : visits + reach next ≤ leaf + 1

get-set_same : (xs : List FlatNode) (k : ℕ) (node new : FlatNode) → slice_get xs k ≡ Some node → slice_get (slice_set xs k new) k ≡ Some new
get-set_same [] k node new there = cc
get-set_same (x ∷ xs) zero node new there = refl
get-set_same (x ∷ xs) (suc k) node new there = get-set_same xs k node new there

get-set_other : (xs : List FlatNode) (k i : ℕ) (new : FlatNode) → (i ≡ k → ⊥) → slice_get (slice_set xs k new) i ≡ slice_get xs i
get-set_other [] k i new other = refl
get-set_other (x ∷ xs) zero zero new other = absurd (other refl)
get-set_other (x ∷ xs) zero (suc i) new other = refl
get-set_other (x ∷ xs) (suc k) zero new other = refl
get-set_other (x ∷ xs) (suc k) (suc i) new other = get-set_other xs k i new (λ e. other (ap suc e))

pub get_within : (xs : List FlatNode) (k : ℕ) (node : FlatNode) → slice_get xs k ≡ Some node → k < length xs
get_within [] k node there = cc
get_within (x ∷ xs) zero node there = omega arith
get_within (x ∷ xs) (suc k) node there = omega (arith, get_within xs k node there)

pub get_there : (xs : List FlatNode) (k : ℕ) → k < length xs → (node : FlatNode) × (slice_get xs k ≡ Some node)
get_there [] k below = absurd (omega (arith, below))
get_there (x ∷ xs) zero below = (x, refl)
get_there (x ∷ xs) (suc k) below = get_there xs k (omega (arith, below))

root-there : (nodes : List FlatNode) (node : FlatNode) → slice_get nodes 0 ≡ Some node → root_state nodes ≡ node_state node
root-there [] node there = cc
root-there (x ∷ xs) node there = let is : x ≡ node = cc in ap node_state is

same-root : (nodes others : List FlatNode) → slice_get nodes 0 ≡ slice_get others 0 → root_state nodes ≡ root_state others
same-root [] [] same = refl
same-root [] (y ∷ ys) same = cc
same-root (x ∷ xs) [] same = cc
same-root (x ∷ xs) (y ∷ ys) same = let is : x ≡ y = cc in ap node_state is

-- of a parent that stands before a place
up-to : (parent : Option ℕ) (place i : ℕ) → StandsBefore parent place → IsUpTo parent i → i < place
up-to None place i before up = absurd up
up-to (Some parent) place i before up = omega (arith, before, up)

within-by : (parent : Option ℕ) (place many : ℕ) → StandsBefore parent place → place < many → IsWithin parent many
within-by None place many before below = tt
within-by (Some parent) place many before below = omega (arith, before, below)

reach-by : (parent : Option ℕ) (place : ℕ) → StandsBefore parent place → reach parent ≤ place
reach-by None place before = omega arith
reach-by (Some parent) place before = omega (arith, before)

root-by : (parent : Option ℕ) (place : ℕ) (nodes : List FlatNode) (new : FlatNode) → StandsBefore parent place → slice_get nodes place ≡ Some new → IsRoot parent (node_state new) nodes
root-by None place nodes new before there = root-there nodes new (subst (λ (p : ℕ). slice_get nodes p ≡ Some new) before there)
root-by (Some parent) place nodes new before there = tt

same-length : (nodes others : List FlatNode) → map bare nodes ≡ map bare others → length nodes ≡ length others
same-length [] [] same = refl
same-length [] (y ∷ ys) same = cc
same-length (x ∷ xs) [] same = cc
same-length (x ∷ xs) (y ∷ ys) same = let rest : map bare xs ≡ map bare ys = cc in ap suc (same-length xs ys rest)

unheard-at : (place : ℕ) (came : AwaitState) → unheard (Some place) came place ≡ came
unheard-at place came = ap (λ (b : Bool). if b then came else Pending) (eq-eqb place place refl)

unheard-other : (place p : ℕ) (came : AwaitState) → (p ≡ place → ⊥) → unheard (Some place) came p ≡ Pending
unheard-other place p came other = ap (λ (b : Bool). if b then came else Pending) (ne_eqb place p (λ e. other (sym e)))

-- the leaf has come to its state
pub starts : (before : List FlatNode) (leaf : ℕ) (state : AwaitState) (after : List FlatNode) (new : FlatNode) → Sleeps before → IsPendingLeaf before leaf
    → ChangesNode (come_to state) before leaf after new → Climbing before leaf state after new.parent state 1 false
starts before leaf state after new sleeps waits (node, there, is_new, is_after) =
    let same : node ≡ waits.node = one node waits.node (sym there ∙ waits.there) in
    let ordered : StandsBefore node.parent leaf = sleeps.ordered leaf node there in
    let pends : node_state node ≡ Pending = ap node_state same ∙ waits.waits in
    let kind_leaf : is_leaf node.kind ≡ true = ap (λ (n : FlatNode). is_leaf n.kind) same ∙ waits.leaf in
    let (root_waits, quiet) = or-false (is_completed (root_state before)) (list_any has_ended before) sleeps.asleep in
    let new_state : node_state (come_to state node) ≡ state = leaf_come node.kind kind_leaf state in
    rw (is_after, is_new) (record {
      settling = subst (λ (s : AwaitState). Settling node.parent s 0 (slice_set before leaf (come_to state node))) new_state
          (visit-settles None Pending 0 before leaf leaf node (come_to state node) there (omega arith) pends refl ordered (λ p other. refl)
          (λ counts m. leaf_inner node.kind node.counts (counts_of (state ∷ [])) counts kind_leaf m) sleeps.settled);
      bare_is = λ n at. let is : node ≡ n = one node n (sym there ∙ at) in ap (λ (m : FlatNode). map bare (slice_set before leaf (come_to state m))) is;
      ended = sym (any-set before leaf node (come_to state node) there (none-of before leaf node there quiet)
          ∙ ap₂ (λ (a b : Bool). a || b) quiet (leaf_ended node.kind kind_leaf (counts_of (state ∷ []))));
      untouched = λ i up. get-set_other before leaf i (come_to state node) (λ e. absurd (omega (arith, e, up-to node.parent leaf i ordered up)));
      within = rw (length-set before leaf (come_to state node)) (within-by node.parent leaf (length before) ordered (get_within before leaf node there));
      root = subst (λ (s : AwaitState). IsRoot node.parent s (slice_set before leaf (come_to state node))) new_state
          (root-by node.parent leaf (slice_set before leaf (come_to state node)) (come_to state node) ordered (get-set_same before leaf node (come_to state node) there));
      way = λ many way. first_step node there many way;
      small = omega (arith, reach-by node.parent leaf ordered);
    })
  where
    one : (a b : FlatNode) → ◌≡◌ {A = Option FlatNode} (Some a) (Some b) → a ≡ b
    one a b e = cc

    leaf_come : (kind : Kind) → is_leaf kind ≡ true → (s : AwaitState) → node_state (let n : FlatNode = record { kind = kind; parent = None; counts = counts_of (s ∷ []) } in n) ≡ s
    leaf_come (kinds.Leaf handle) e s = leaf-state s handle
    leaf_come kinds.Unknown e s = cc
    leaf_come kinds.FirstCompleted e s = cc
    leaf_come kinds.AllCompleted e s = cc
    leaf_come kinds.FirstSucceededOrAllFailed e s = cc
    leaf_come kinds.AllSucceededOrFirstFailed e s = cc
    leaf_come (kinds.AtLeast required) e s = cc

    leaf_ended : (kind : Kind) → is_leaf kind ≡ true → (counts : _) → has_ended (let n : FlatNode = record { kind = kind; parent = None; counts = counts } in n) ≡ false
    leaf_ended (kinds.Leaf handle) e counts = refl
    leaf_ended kinds.Unknown e counts = cc
    leaf_ended kinds.FirstCompleted e counts = cc
    leaf_ended kinds.AllCompleted e counts = cc
    leaf_ended kinds.FirstSucceededOrAllFailed e counts = cc
    leaf_ended kinds.AllSucceededOrFirstFailed e counts = cc
    leaf_ended (kinds.AtLeast required) e counts = cc

    leaf_inner : (kind : Kind) (counts more after : _) → is_leaf kind ≡ true → inner_counts kind counts ≡ after → inner_counts kind more ≡ after
    leaf_inner (kinds.Leaf handle) counts more after e m = m
    leaf_inner kinds.Unknown counts more after e m = cc
    leaf_inner kinds.FirstCompleted counts more after e m = cc
    leaf_inner kinds.AllCompleted counts more after e m = cc
    leaf_inner kinds.FirstSucceededOrAllFailed counts more after e m = cc
    leaf_inner kinds.AllSucceededOrFirstFailed counts more after e m = cc
    leaf_inner (kinds.AtLeast required) counts more after e m = cc

    first_step : (node : FlatNode) → slice_get before leaf ≡ Some node → (many : ℕ) → IsWay before (Some leaf) many → (rest : ℕ) × IsWay before node.parent rest × (1 + rest ≡ many)
    first_step node there zero way = absurd way
    first_step node there (suc many) (n, at, way) = let is : n ≡ node = one n node (sym at ∙ there) in
        (many, subst (λ (m : FlatNode). IsWay before m.parent many) is way, omega arith)

module _ (before : List FlatNode) (leaf : ℕ) (state : AwaitState) (sleeps : Sleeps before) where
  quiet : list_any has_ended before ≡ false
  quiet = (or-false (is_completed (root_state before)) (list_any has_ended before) sleeps.asleep).1

  -- what is known of the node that hears next
  pub hears : (nodes : List FlatNode) (place : ℕ) (came : AwaitState) (visits : ℕ) (is_awake : Bool) (node : FlatNode) → Climbing before leaf state nodes (Some place) came visits is_awake
      → is_completed came ≡ true → slice_get nodes place ≡ Some node → Waits came (length nodes) node
  hears nodes place came visits is_awake node climbing done there =
      let heard = heard-at (Some place) came 0 nodes place place (length nodes) node there (omega arith) (omega arith) climbing.settling in
      waits-at came (length nodes) node heard.counts done
      (none-of before place node (sym (climbing.untouched place (omega arith)) ∙ there) quiet)
      (subst (λ (s : AwaitState). Moves s (inner_counts node.kind node.counts) heard.counts) (unheard-at place came) heard.moves) heard.succeeded heard.failed

  pub has-room : (nodes : List FlatNode) (place : ℕ) (came : AwaitState) (visits : ℕ) (is_awake : Bool) → Climbing before leaf state nodes (Some place) came visits is_awake
      → is_completed came ≡ true → HasRoom nodes place
  has-room nodes place came visits is_awake climbing done node there =
      let waits = hears nodes place came visits is_awake node climbing done there in
      (waits.pending, waits.succeeded, waits.failed)

  -- one visit more
  pub climbs-on : (nodes : List FlatNode) (place : ℕ) (came : AwaitState) (visits : ℕ) (is_awake : Bool) (after : List FlatNode) (new : FlatNode)
      → Climbing before leaf state nodes (Some place) came visits is_awake → is_completed came ≡ true → ChangesNode (visited came) nodes place after new
      → Climbing before leaf state after new.parent (node_state new) (visits + 1) (is_awake || has_ended new)
  climbs-on nodes place came visits is_awake after new climbing done (node, there, is_new, is_after) =
      let waits = hears nodes place came visits is_awake node climbing done there in
      let there_before : slice_get before place ≡ Some node = sym (climbing.untouched place (omega arith)) ∙ there in
      let ordered : StandsBefore node.parent place = sleeps.ordered place node there_before in
      rw (is_after, is_new) (record {
        settling = visit-settles (Some place) came 0 nodes place place node (visited came node) there (omega arith) waits.state refl ordered
            (λ p other. unheard-other place p came other)
            (λ counts m. heard-then came node counts waits.inner (subst (λ (s : AwaitState). Moves s (inner_counts node.kind node.counts) counts) (unheard-at place came) m))
            climbing.settling;
        bare_is = λ n at. bare-set nodes place node (visited came node) there (bare-visited came node waits.inner) ∙ climbing.bare_is n at;
        ended = ap (λ (b : Bool). b || has_ended (visited came node)) climbing.ended
            ∙ sym (any-set nodes place node (visited came node) there (none-of before place node there_before quiet));
        untouched = λ i up. let below : i < place = up-to node.parent place i ordered up in
            get-set_other nodes place i (visited came node) (λ e. absurd (omega (arith, e, below))) ∙ climbing.untouched i (omega (arith, below));
        within = rw (length-set nodes place (visited came node)) (within-by node.parent place (length nodes) ordered climbing.within);
        root = root-by node.parent place (slice_set nodes place (visited came node)) (visited came node) ordered (get-set_same nodes place node (visited came node) there);
        way = λ many way. one_on many (climbing.way many way) node there_before;
        small = omega (arith, reach-by node.parent place ordered, climbing.small);
      })
    where
      one_on : (many : ℕ) → ((rest : ℕ) × IsWay before (Some place) rest × (visits + rest ≡ many)) → (node : FlatNode) → slice_get before place ≡ Some node
          → (rest : ℕ) × IsWay before node.parent rest × ((visits + 1) + rest ≡ many)
      one_on many (rest, way, e) node there = by_rest rest way e
        where
          by_rest : (rest : ℕ) → IsWay before (Some place) rest → visits + rest ≡ many → (less : ℕ) × IsWay before node.parent less × ((visits + 1) + less ≡ many)
          by_rest zero way e = absurd way
          by_rest (suc rest) (n, at, way) e =
              let same : ◌≡◌ {A = Option FlatNode} (Some n) (Some node) = sym at ∙ there in
              let is : n ≡ node = cc in
              (rest, subst (λ (m : FlatNode). IsWay before m.parent rest) is way, omega (arith, e))

  -- it stops at a node that still waits
  pub stops : (nodes : List FlatNode) (next : Option ℕ) (came : AwaitState) (visits : ℕ) (is_awake : Bool) → Climbing before leaf state nodes next came visits is_awake
      → is_completed came ≡ false → Climbs state before leaf nodes is_awake
  stops nodes next came visits is_awake climbing waits = record {
    settled = same-unheard next None came Pending 0 nodes (λ p le. none_unheard next p) climbing.settling;
    bare_is = climbing.bare_is;
    awake = climbing.ended ∙ sym (ap (λ (b : Bool). b || list_any has_ended nodes) (root_waits next climbing.root climbing.untouched));
  }
    where
      none_unheard : (next : Option ℕ) (p : ℕ) → unheard next came p ≡ Pending
      none_unheard None p = refl
      none_unheard (Some place) p = at (place == p)
        where
          is_pending : (s : AwaitState) → is_completed s ≡ false → s ≡ Pending
          is_pending Pending e = refl
          is_pending Succeeded e = cc
          is_pending Failed e = cc

          at : (b : Bool) → (if b then came else Pending) ≡ Pending
          at true = is_pending came waits
          at false = refl

      root_waits : (next : Option ℕ) → IsRoot next came nodes → ((i : ℕ) → IsUpTo next i → slice_get nodes i ≡ slice_get before i) → is_completed (root_state nodes) ≡ false
      root_waits None root untouched = ap is_completed root ∙ waits
      root_waits (Some place) root untouched =
          ap is_completed (same-root nodes before (untouched 0 (omega arith)))
          ∙ (or-false (is_completed (root_state before)) (list_any has_ended before) sleeps.asleep).0

  -- it comes to the root
  pub tops : (nodes : List FlatNode) (came : AwaitState) (visits : ℕ) (is_awake : Bool) → Climbing before leaf state nodes None came visits is_awake
      → is_completed came ≡ true → Climbs state before leaf nodes true
  tops nodes came visits is_awake climbing done = record {
    settled = climbing.settling;
    bare_is = climbing.bare_is;
    awake = sym (ap (λ (b : Bool). b || list_any has_ended nodes) (ap is_completed climbing.root ∙ done));
  }

  pub few-visits : (nodes : List FlatNode) (next : Option ℕ) (came : AwaitState) (visits : ℕ) (is_awake : Bool) → Climbing before leaf state nodes next came visits is_awake
      → (many : ℕ) → IsWay before (Some leaf) many → visits ≤ many
  few-visits nodes next came visits is_awake climbing many way = let (rest, up, e) = climbing.way many way in omega (arith, e)

  -- the next visit stands before this one
  pub goes-up : (nodes : List FlatNode) (place : ℕ) (came : AwaitState) (visits : ℕ) (is_awake : Bool) (after : List FlatNode) (new : FlatNode)
      → Climbing before leaf state nodes (Some place) came visits is_awake → ChangesNode (visited came) nodes place after new → reach new.parent < reach (Some place)
  goes-up nodes place came visits is_awake after new climbing (node, there, is_new, is_after) =
      let there_before : slice_get before place ≡ Some node = sym (climbing.untouched place (omega arith)) ∙ there in
      let few : reach node.parent ≤ place = reach-by node.parent place (sleeps.ordered place node there_before) in
      let same : reach new.parent ≡ reach node.parent = ap (λ (n : FlatNode). reach n.parent) is_new in
      omega (arith, few, same)

  pub climbs-on_as : (nodes : List FlatNode) (next : Option ℕ) (place : ℕ) (came : AwaitState) (visits : ℕ) (is_awake : Bool) (after : List FlatNode) (new : FlatNode) (then_state : AwaitState) (ends awake : Bool)
      → Climbing before leaf state nodes next came visits is_awake → is_completed came ≡ true → next ≡ Some place → ChangesNode (visited came) nodes place after new
      → then_state ≡ node_state new → ends ≡ has_ended new → awake ≡ (is_awake || ends)
      → Climbing before leaf state after new.parent then_state (visits + 1) awake
  climbs-on_as nodes next place came visits is_awake after new then_state ends awake climbing done at changes is_then is_ends is_awake_then =
      rw (is_then, is_awake_then, is_ends) (climbs-on nodes place came visits is_awake after new
      (subst (λ (n : Option ℕ). Climbing before leaf state nodes n came visits is_awake) at climbing) done changes)

  pub goes-up_as : (nodes : List FlatNode) (next : Option ℕ) (place : ℕ) (came : AwaitState) (visits : ℕ) (is_awake : Bool) (after : List FlatNode) (new : FlatNode)
      → Climbing before leaf state nodes next came visits is_awake → next ≡ Some place → ChangesNode (visited came) nodes place after new → reach new.parent < reach next
  goes-up_as nodes next place came visits is_awake after new climbing at changes =
      subst (λ (n : Option ℕ). reach new.parent < reach n) (sym at) (goes-up nodes place came visits is_awake after new
      (subst (λ (n : Option ℕ). Climbing before leaf state nodes n came visits is_awake) at climbing) changes)

  pub tops_as : (nodes : List FlatNode) (next : Option ℕ) (came : AwaitState) (visits : ℕ) (is_awake : Bool) → Climbing before leaf state nodes next came visits is_awake
      → is_completed came ≡ true → next ≡ None → Climbs state before leaf nodes true
  tops_as nodes next came visits is_awake climbing done at = tops nodes came visits is_awake (subst (λ (n : Option ℕ). Climbing before leaf state nodes n came visits is_awake) at climbing) done

  pub small-visits : (nodes : List FlatNode) (next : Option ℕ) (came : AwaitState) (visits : ℕ) (is_awake : Bool) → Climbing before leaf state nodes next came visits is_awake → visits ≤ leaf + 1
  small-visits nodes next came visits is_awake climbing = omega (arith, climbing.small)
