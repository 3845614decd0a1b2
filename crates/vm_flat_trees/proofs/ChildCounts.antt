-- One visit on the way up.
use Rattle.std.proofs.Common.{◌≡◌, refl, sym, ap, ◌∙◌, subst, ℕ, zero, suc, ◌+◌, ◌≤◌, ne_eqb, arith, Bool, true, false, if◌then◌else◌, List, [], ◌∷◌, length, Option, Some, None, slice_get, slice_set}
use Rattle.journal_model.specs.AwaitTree.{AwaitState, Pending, Succeeded, Failed}
use Rattle.vm_flat_trees.specs.declared.node.Counts.{Counts}
use Rattle.vm_flat_trees.specs.declared.node.FlatNode.{FlatNode}
use Rattle.vm_flat_trees.specs.Counts.{no_counts, child_counted}
use Rattle.vm_flat_trees.specs.Flat.{node_state}
use Rattle.vm_flat_trees.specs.ChildCounts.{is_at, tally, inner_counts, Moves, unheard, Settling, StandsBefore}

moves-here : (here : Bool) (state : AwaitState) (counts : Counts)
    → Moves (if here then state else Pending) (if here then child_counted Pending counts else counts) (if here then child_counted state counts else counts)
moves-here true Pending counts = refl
moves-here true Succeeded counts = (refl, refl, refl)
moves-here true Failed counts = (refl, refl, refl)
moves-here false state counts = refl

moves-counted : (came state : AwaitState) (before after : Counts) → Moves came before after → Moves came (child_counted state before) (child_counted state after)
moves-counted Pending state before after same = ap (child_counted state) same
moves-counted Succeeded Pending before after (a, b, c) = (omega arith, b, c)
moves-counted Succeeded Succeeded before after (a, b, c) = (a, omega arith, c)
moves-counted Succeeded Failed before after (a, b, c) = (a, b, omega arith)
moves-counted Failed Pending before after (a, b, c) = (omega arith, b, c)
moves-counted Failed Succeeded before after (a, b, c) = (a, omega arith, c)
moves-counted Failed Failed before after (a, b, c) = (a, b, omega arith)

moves-beside : (came state : AwaitState) (here : Bool) (before after : Counts) → Moves came before after
    → Moves came (if here then child_counted state before else before) (if here then child_counted state after else after)
moves-beside came state true before after m = moves-counted came state before after m
moves-beside came state false before after m = m

-- a pending node among others comes to something
tally-set : (place : ℕ) (xs : List FlatNode) (k : ℕ) (node new : FlatNode) (counts : Counts) → slice_get xs k ≡ Some node → node_state node ≡ Pending → new.parent ≡ node.parent
    → Moves (unheard node.parent (node_state new) place) (tally place xs counts) (tally place (slice_set xs k new) counts)
tally-set place [] k node new counts there waits same = cc
tally-set place (x ∷ xs) zero node new counts there waits same =
    let is : x ≡ node = cc in
    subst (λ (n : FlatNode). Moves (unheard node.parent (node_state new) place) (if is_at place n.parent then child_counted (node_state n) (tally place xs counts) else tally place xs counts)
    (if is_at place new.parent then child_counted (node_state new) (tally place xs counts) else tally place xs counts)) (sym is)
    (rw (waits, same) (moves-here (is_at place node.parent) (node_state new) (tally place xs counts)))
tally-set place (x ∷ xs) (suc k) node new counts there waits same =
    moves-beside (unheard node.parent (node_state new) place) (node_state x) (is_at place x.parent) (tally place xs counts) (tally place (slice_set xs k new) counts)
    (tally-set place xs k node new counts there waits same)

-- what none has heard of behind this place
pub same-unheard : (next other : Option ℕ) (came state : AwaitState) (place : ℕ) (xs : List FlatNode)
    → ((p : ℕ) → place ≤ p → unheard next came p ≡ unheard other state p) → Settling next came place xs → Settling other state place xs
same-unheard next other came state place [] same settling = tt
same-unheard next other came state place (x ∷ xs) same settling = (
  subst (λ (s : AwaitState). Moves s (inner_counts x.kind x.counts) (tally place xs no_counts)) (same place (omega arith)) settling.0,
  same-unheard next other came state (place + 1) xs (λ p le. same p (omega arith)) settling.1,
)

none-before : (parent : Option ℕ) (came : AwaitState) (place p : ℕ) → StandsBefore parent place → place ≤ p → unheard parent came p ≡ Pending
none-before None came place p before le = refl
none-before (Some parent) came place p before le =
    ap (λ (b : Bool). if b then came else Pending) (ne_eqb parent p (λ e. absurd (omega (arith, e))))

-- one visit on the way up: the node at `place + k` has heard of its child, and its parent is next
pub visit-settles : (next : Option ℕ) (came : AwaitState) (place : ℕ) (xs : List FlatNode) (k i : ℕ) (node new : FlatNode)
    → slice_get xs k ≡ Some node → i ≡ place + k → node_state node ≡ Pending → new.parent ≡ node.parent → StandsBefore node.parent i
    → ((p : ℕ) → (p ≡ i → ⊥) → unheard next came p ≡ Pending)
    → ((counts : Counts) → Moves (unheard next came i) (inner_counts node.kind node.counts) counts → inner_counts new.kind new.counts ≡ counts)
    → Settling next came place xs → Settling node.parent (node_state new) place (slice_set xs k new)
visit-settles next came place [] k i node new there at waits same before only heard settling = cc
visit-settles next came place (x ∷ xs) zero i node new there at waits same before only heard settling =
    let is : x ≡ node = cc in
    let here : i ≡ place = omega (arith, at) in
    let first : inner_counts new.kind new.counts ≡ tally place xs no_counts =
    heard (tally place xs no_counts) (subst (λ (n : FlatNode). Moves (unheard next came i) (inner_counts n.kind n.counts) (tally place xs no_counts)) is
    (subst (λ (p : ℕ). Moves (unheard next came p) (inner_counts x.kind x.counts) (tally place xs no_counts)) (sym here) settling.0)) in (
      subst (λ (s : AwaitState). Moves s (inner_counts new.kind new.counts) (tally place xs no_counts)) (sym (none-before node.parent (node_state new) i place before (omega (arith, here)))) first,
      same-unheard next node.parent came (node_state new) (place + 1) xs
          (λ p le. only p (λ e. absurd (omega (arith, e, here, le))) ∙ sym (none-before node.parent (node_state new) i p before (omega (arith, here, le)))) settling.1,
    )
visit-settles next came place (x ∷ xs) (suc k) i node new there at waits same before only heard settling =
    let first : inner_counts x.kind x.counts ≡ tally place xs no_counts =
    subst (λ (s : AwaitState). Moves s (inner_counts x.kind x.counts) (tally place xs no_counts)) (only place (λ e. absurd (omega (arith, e, at)))) settling.0 in (
      subst (λ (counts : Counts). Moves (unheard node.parent (node_state new) place) counts (tally place (slice_set xs k new) no_counts)) (sym first)
          (tally-set place xs k node new no_counts there waits same),
      visit-settles next came (place + 1) xs k i node new there (omega (arith, at)) waits same before only heard settling.1,
    )

tally-small : (place : ℕ) (xs : List FlatNode) → ((tally place xs no_counts).succeeded ≤ length xs) × ((tally place xs no_counts).failed ≤ length xs)
tally-small place [] = (omega arith, omega arith)
tally-small place (x ∷ xs) = by_cases (is_at place x.parent) (node_state x) (tally-small place xs)
  where
    by_cases : (here : Bool) (state : AwaitState) → ((tally place xs no_counts).succeeded ≤ length xs) × ((tally place xs no_counts).failed ≤ length xs)
        → ((if here then child_counted state (tally place xs no_counts) else tally place xs no_counts).succeeded ≤ suc (length xs))
        × ((if here then child_counted state (tally place xs no_counts) else tally place xs no_counts).failed ≤ suc (length xs))
    by_cases true Pending (a, b) = (omega arith, omega arith)
    by_cases true Succeeded (a, b) = (omega arith, omega arith)
    by_cases true Failed (a, b) = (omega arith, omega arith)
    by_cases false state (a, b) = (omega arith, omega arith)

-- what a node counts, and is to count
pub record Heard (next : Option ℕ) (came : AwaitState) (i many : ℕ) (node : FlatNode) : Type 0 where
  pub counts : Counts
  pub moves : Moves (unheard next came i) (inner_counts node.kind node.counts) counts
  pub succeeded : counts.succeeded ≤ many
  pub failed : counts.failed ≤ many

pub heard-at : (next : Option ℕ) (came : AwaitState) (place : ℕ) (xs : List FlatNode) (k i many : ℕ) (node : FlatNode)
    → slice_get xs k ≡ Some node → i ≡ place + k → length xs ≤ many → Settling next came place xs → Heard next came i many node
heard-at next came place [] k i many node there at few settling = cc
heard-at next came place (x ∷ xs) zero i many node there at few settling =
    let is : x ≡ node = cc in
    let here : place ≡ i = omega (arith, at) in
    let small = tally-small place xs in
    record {
      counts = tally place xs no_counts;
      moves = subst (λ (n : FlatNode). Moves (unheard next came i) (inner_counts n.kind n.counts) (tally place xs no_counts)) is
          (subst (λ (p : ℕ). Moves (unheard next came p) (inner_counts x.kind x.counts) (tally place xs no_counts)) here settling.0);
      succeeded = omega (arith, small.0);
      failed = omega (arith, small.1);
    }
heard-at next came place (x ∷ xs) (suc k) i many node there at few settling =
    heard-at next came (place + 1) xs k i many node there (omega (arith, at)) (omega arith) settling.1
