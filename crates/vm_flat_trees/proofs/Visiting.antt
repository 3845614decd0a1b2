-- A node that hears of a child.
use Rattle.std.proofs.Common.{◌≡◌, refl, sym, ap, ap₂, ◌∙◌, subst, ℕ, zero, suc, ◌+◌, ◌<◌, ◌≤◌, ◌==◌, ne_eqb, arith, Bool, true, false, not, ◌||◌, List, [], ◌∷◌, map, Some, slice_get, slice_set}
use Rattle.std.specs.List.{list_any}
use Rattle.journal_model.specs.AwaitTree.{AwaitState, Pending, Succeeded, Failed, is_completed}
use Rattle.journal_laws.proofs.Leaving.{or-false}
use Rattle.vm_flat_trees.specs.declared.node.Kind.{Kind}
use Rattle.vm_flat_trees.specs.declared.node.Kind.TheVariants as kinds
use Rattle.vm_flat_trees.specs.declared.node.Counts.{Counts}
use Rattle.vm_flat_trees.specs.declared.node.FlatNode.{FlatNode}
use Rattle.vm_flat_trees.specs.Counts.{no_counts, first_by, at_least_by, state_by, is_ended}
use Rattle.vm_flat_trees.specs.Flat.{node_state, has_ended}
use Rattle.vm_flat_trees.specs.ChildCounts.{inner_counts, leaf_counts, bare, Moves, moved, visited, is_leaf}

-- none of a test's list
pub none-of : (xs : List FlatNode) (k : ℕ) (node : FlatNode) → slice_get xs k ≡ Some node → list_any has_ended xs ≡ false → has_ended node ≡ false
none-of [] k node there quiet = cc
none-of (x ∷ xs) zero node there quiet = let is : x ≡ node = cc in ap has_ended (sym is) ∙ (or-false (has_ended x) (list_any has_ended xs) quiet).0
none-of (x ∷ xs) (suc k) node there quiet = none-of xs k node there (or-false (has_ended x) (list_any has_ended xs) quiet).1

-- and of the list with another node in place of one that does not pass the test
pub any-set : (xs : List FlatNode) (k : ℕ) (node new : FlatNode) → slice_get xs k ≡ Some node → has_ended node ≡ false
    → list_any has_ended (slice_set xs k new) ≡ (list_any has_ended xs || has_ended new)
any-set [] k node new there quiet = cc
any-set (x ∷ xs) zero node new there quiet = let is : x ≡ node = cc in
    let own : has_ended x ≡ false = ap has_ended is ∙ quiet in
    by_cases (has_ended new) (list_any has_ended xs) ∙ sym (ap (λ (b : Bool). (b || list_any has_ended xs) || has_ended new) own)
  where
    by_cases : (a b : Bool) → (a || b) ≡ ((false || b) || a)
    by_cases true true = refl
    by_cases true false = refl
    by_cases false true = refl
    by_cases false false = refl
any-set (x ∷ xs) (suc k) node new there quiet = by_cases (has_ended x) (any-set xs k node new there quiet)
  where
    by_cases : (b : Bool) → list_any has_ended (slice_set xs k new) ≡ (list_any has_ended xs || has_ended new)
        → (b || list_any has_ended (slice_set xs k new)) ≡ ((b || list_any has_ended xs) || has_ended new)
    by_cases true e = refl
    by_cases false e = e

not-false : (b : Bool) → not b ≡ false → b ≡ true
not-false true e = refl
not-false false e = cc

pending_if : (state : AwaitState) → is_completed state ≡ false → state ≡ Pending
pending_if Pending waits = refl
pending_if Succeeded waits = cc
pending_if Failed waits = cc

-- a node that has not ended, and one of whose children is pending, is pending
pub still-pending : (kind : Kind) (counts : Counts) → is_leaf kind ≡ false → is_ended kind counts ≡ false → (counts.pending == 0) ≡ false → state_by kind counts ≡ Pending
still-pending (kinds.Leaf handle) counts inner quiet waits = cc
still-pending kinds.Unknown counts inner quiet waits =
    let (a, b) = or-false (not (counts.succeeded == 0)) (not (counts.failed == 0)) quiet in
    ap₂ first_by (not-false (counts.succeeded == 0) a) (not-false (counts.failed == 0) b)
still-pending kinds.FirstCompleted counts inner quiet waits =
    let (a, b) = or-false (not (counts.succeeded == 0)) (not (counts.failed == 0)) quiet in
    ap₂ first_by (not-false (counts.succeeded == 0) a) (not-false (counts.failed == 0) b)
still-pending kinds.AllCompleted counts inner quiet waits = rw waits refl
still-pending kinds.FirstSucceededOrAllFailed counts inner quiet waits = rw (not-false (counts.succeeded == 0) quiet, waits) refl
still-pending kinds.AllSucceededOrFirstFailed counts inner quiet waits = rw (not-false (counts.failed == 0) quiet, waits) refl
still-pending (kinds.AtLeast required) counts inner quiet waits = pending_if (at_least_by required counts) quiet

-- what is known of a node that is visited
pub record Waits (came : AwaitState) (many : ℕ) (node : FlatNode) : Type 0 where
  pub inner : is_leaf node.kind ≡ false
  pub pending : 0 < node.counts.pending
  pub succeeded : node.counts.succeeded ≤ many
  pub failed : node.counts.failed ≤ many
  pub state : node_state node ≡ Pending

waits-by : (came : AwaitState) (before after : Counts) → is_completed came ≡ true → Moves came before after → (before.pending ≡ after.pending + 1) × (before.succeeded ≤ after.succeeded) × (before.failed ≤ after.failed)
waits-by Pending before after done m = cc
waits-by Succeeded before after done (a, b, c) = (a, omega arith, omega arith)
waits-by Failed before after done (a, b, c) = (a, omega arith, omega arith)

inner-by : (came : AwaitState) (kind : Kind) (counts after : Counts) → is_completed came ≡ true → Moves came (inner_counts kind counts) after
    → (is_leaf kind ≡ false) × (inner_counts kind counts ≡ counts)
inner-by came (kinds.Leaf handle) counts after done m = absurd (omega (arith, (waits-by came no_counts after done m).0))
inner-by came kinds.Unknown counts after done m = (refl, refl)
inner-by came kinds.FirstCompleted counts after done m = (refl, refl)
inner-by came kinds.AllCompleted counts after done m = (refl, refl)
inner-by came kinds.FirstSucceededOrAllFailed counts after done m = (refl, refl)
inner-by came kinds.AllSucceededOrFirstFailed counts after done m = (refl, refl)
inner-by came (kinds.AtLeast required) counts after done m = (refl, refl)

pub waits-at : (came : AwaitState) (many : ℕ) (node : FlatNode) (after : Counts) → is_completed came ≡ true → has_ended node ≡ false
    → Moves came (inner_counts node.kind node.counts) after → after.succeeded ≤ many → after.failed ≤ many → Waits came many node
waits-at came many node after done quiet m s f =
    let (inner, same) = inner-by came node.kind node.counts after done m in
    let so : Moves came node.counts after = subst (λ (c : Counts). Moves came c after) same m in
    let (p, a, b) = waits-by came node.counts after done so in
    record {
      inner = inner;
      pending = omega (arith, p);
      succeeded = omega (arith, a, s);
      failed = omega (arith, b, f);
      state = still-pending node.kind node.counts inner quiet (ne_eqb node.counts.pending 0 (λ e. absurd (omega (arith, e, p))));
    }

same-counts : (a b : Counts) → a.pending ≡ b.pending → a.succeeded ≡ b.succeeded → a.failed ≡ b.failed → a ≡ b
same-counts a b p s f = λ i. record { pending = p i; succeeded = s i; failed = f i }

moved-is : (came : AwaitState) (before after : Counts) → Moves came before after → moved came before ≡ after
moved-is Pending before after m = m
moved-is Succeeded before after (a, b, c) = same-counts (moved Succeeded before) after (omega (arith, a)) (sym b) (sym c)
moved-is Failed before after (a, b, c) = same-counts (moved Failed before) after (omega (arith, a)) (sym b) (sym c)

inner-kept : (kind : Kind) (counts : Counts) → is_leaf kind ≡ false → inner_counts kind counts ≡ counts
inner-kept (kinds.Leaf handle) counts inner = cc
inner-kept kinds.Unknown counts inner = refl
inner-kept kinds.FirstCompleted counts inner = refl
inner-kept kinds.AllCompleted counts inner = refl
inner-kept kinds.FirstSucceededOrAllFailed counts inner = refl
inner-kept kinds.AllSucceededOrFirstFailed counts inner = refl
inner-kept (kinds.AtLeast required) counts inner = refl

-- a visited node has heard of its child
pub heard-then : (came : AwaitState) (node : FlatNode) (counts : Counts) → is_leaf node.kind ≡ false → Moves came (inner_counts node.kind node.counts) counts
    → inner_counts node.kind (moved came node.counts) ≡ counts
heard-then came node counts inner m =
    inner-kept node.kind (moved came node.counts) inner
    ∙ moved-is came node.counts counts (subst (λ (c : Counts). Moves came c counts) (inner-kept node.kind node.counts inner) m)

leaf-kept : (kind : Kind) (counts after : Counts) → is_leaf kind ≡ false → leaf_counts kind counts ≡ leaf_counts kind after
leaf-kept (kinds.Leaf handle) counts after inner = cc
leaf-kept kinds.Unknown counts after inner = refl
leaf-kept kinds.FirstCompleted counts after inner = refl
leaf-kept kinds.AllCompleted counts after inner = refl
leaf-kept kinds.FirstSucceededOrAllFailed counts after inner = refl
leaf-kept kinds.AllSucceededOrFirstFailed counts after inner = refl
leaf-kept (kinds.AtLeast required) counts after inner = refl

pub bare-visited : (came : AwaitState) (node : FlatNode) → is_leaf node.kind ≡ false → bare (visited came node) ≡ bare node
bare-visited came node inner = ap (λ (counts : Counts). let n : FlatNode = record { kind = node.kind; parent = node.parent; counts = counts } in n) (leaf-kept node.kind (moved came node.counts) node.counts inner)

-- a list with a node in place of one that is the same but for what other nodes tell of it
pub bare-set : (xs : List FlatNode) (k : ℕ) (node new : FlatNode) → slice_get xs k ≡ Some node → bare new ≡ bare node → map bare (slice_set xs k new) ≡ map bare xs
bare-set [] k node new there same = refl
bare-set (x ∷ xs) zero node new there same = let is : x ≡ node = cc in ap (λ (n : FlatNode). n ∷ map bare xs) (same ∙ ap bare (sym is))
bare-set (x ∷ xs) (suc k) node new there same = ap (λ (ns : List FlatNode). bare x ∷ ns) (bare-set xs k node new there same)
