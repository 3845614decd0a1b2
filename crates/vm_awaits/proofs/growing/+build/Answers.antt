use Rattle.std.proofs.Common.{◌≡◌, ap, ◌∙◌, subst, ℕ, arith, List, ◌++◌, length, map, take, Some, slice_set}
use Rattle.journal_model.specs.AwaitTree.{AwaitTree}
use Rattle.journal_model.specs.Future.{tree_of}
use Rattle.vm_flat_trees.specs.Counts.{state_meant}
use Rattle.vm_flat_trees.specs.Flat.{flat_at}
use Rattle.vm_flat_trees.specs.FutureRoots.{kind_combinator}
use Rattle.attempt_model.specs.Results.{handle_state}
use Rattle.vm_awaits.specs.ReadyViews.{ready_in}
use Rattle.vm_flat_trees.proofs.Growing.{Grown, root_of, grown-more, grown-few, grown-all, grown-state, child-smaller, next-child, all-children, few-children}
use Rattle.vm_awaits.proofs.growing.+build.Goals as goal

pub build-requires : goal.build-requires
build-requires t c =
    let smaller = child-smaller (kind_combinator c.in-Node.kind) (tree_of c.args.future.now) c.in-Node.children.now c.loop-child.child-index c.child-item.result c.in-Node.ensures.tree c.loop-child-test.true c.child-item.is in
    (omega (arith, smaller, c.decreases), tt)

pub counted-counts-requires-clause-pending : goal.counted-counts-requires-clause-pending
counted-counts-requires-clause-pending t c =
    let few = grown-few (handle_state c.args.slots.now (ready_in c.args.ready.now)) c.args.nodes.now.items c.in-Node.kind c.args.parent (map tree_of (take c.loop-child.child-index c.in-Node.children.now)) c.loop-child.nodes.items c.loop-child.counts c.loop-child.invariant in
    let less = few-children c.in-Node.children.now c.loop-child.child-index c.loop-child.auto.child-index-end in
    omega (arith, few, less, c.loop-child-test.true)

pub counted-counts-requires-clause-succeeded : goal.counted-counts-requires-clause-succeeded
counted-counts-requires-clause-succeeded t c =
    let few = grown-few (handle_state c.args.slots.now (ready_in c.args.ready.now)) c.args.nodes.now.items c.in-Node.kind c.args.parent (map tree_of (take c.loop-child.child-index c.in-Node.children.now)) c.loop-child.nodes.items c.loop-child.counts c.loop-child.invariant in
    let less = few-children c.in-Node.children.now c.loop-child.child-index c.loop-child.auto.child-index-end in
    omega (arith, few, less, c.loop-child-test.true)

pub counted-counts-requires-clause-failed : goal.counted-counts-requires-clause-failed
counted-counts-requires-clause-failed t c =
    let few = grown-few (handle_state c.args.slots.now (ready_in c.args.ready.now)) c.args.nodes.now.items c.in-Node.kind c.args.parent (map tree_of (take c.loop-child.child-index c.in-Node.children.now)) c.loop-child.nodes.items c.loop-child.counts c.loop-child.invariant in
    let less = few-children c.in-Node.children.now c.loop-child.child-index c.loop-child.auto.child-index-end in
    omega (arith, few, less, c.loop-child-test.true)

pub loop-child-preserved : goal.loop-child-preserved
loop-child-preserved t c =
    let place : c.len-place.result ≡ length c.args.nodes.now.items = omega (arith, c.len-place.ensures) in
    subst (λ (trees : List (AwaitTree ℕ)). Grown (handle_state c.args.slots.now (ready_in c.args.ready.now)) c.args.nodes.now.items c.in-Node.kind c.args.parent trees c.build.new.nodes.items c.counted-counts.result)
    (next-child c.in-Node.children.now c.loop-child.child-index c.child-item.result c.loop-child-test.true c.child-item.is)
    (grown-more (handle_state c.args.slots.now (ready_in c.args.ready.now)) c.args.nodes.now.items c.in-Node.kind c.args.parent (map tree_of (take c.loop-child.child-index c.in-Node.children.now)) c.loop-child.nodes.items c.loop-child.counts (tree_of c.child-item.result)
    c.build.new.nodes.items (state_meant c.in_ok-state-in-Node.state) c.counted-counts.result c.loop-child.invariant
    (c.in_ok-state-in-Node.ensures.nodes ∙ ap (λ (p : ℕ). c.loop-child.nodes.items ++ flat_at (λ handle. handle) (handle_state c.args.slots.now (ready_in c.args.ready.now)) (length c.loop-child.nodes.items) (Some p) (tree_of c.child-item.result)) place)
    c.in_ok-state-in-Node.ensures.state c.counted-counts.ensures)

pub returns-after-loop-child-clause-nodes : goal.returns-after-loop-child-clause-nodes
returns-after-loop-child-clause-nodes t c =
    let place : c.len-place.result ≡ length c.args.nodes.now.items = omega (arith, c.len-place.ensures) in
    let whole : Grown (handle_state c.args.slots.now (ready_in c.args.ready.now)) c.args.nodes.now.items c.in-Node.kind c.args.parent (map tree_of c.in-Node.children.now) c.loop-child.nodes.items c.loop-child.counts =
    subst (λ (trees : List (AwaitTree ℕ)). Grown (handle_state c.args.slots.now (ready_in c.args.ready.now)) c.args.nodes.now.items c.in-Node.kind c.args.parent trees c.loop-child.nodes.items c.loop-child.counts)
    (all-children c.in-Node.children.now c.loop-child.child-index (omega (arith, c.loop-child-test.false))) c.loop-child.invariant in
    grown-all (handle_state c.args.slots.now (ready_in c.args.ready.now)) c.args.nodes.now.items c.in-Node.kind c.args.parent (map tree_of c.in-Node.children.now) c.loop-child.nodes.items _ c.loop-child.counts (kind_combinator c.in-Node.kind) (tree_of c.args.future.now) whole
    c.in-Node.ensures.inner c.in-Node.ensures.tree
    (ap (λ (p : ℕ). slice_set c.loop-child.nodes.items p (root_of c.in-Node.kind c.args.parent c.loop-child.counts)) place)

pub returns-after-loop-child-clause-state : goal.returns-after-loop-child-clause-state
returns-after-loop-child-clause-state t c =
    let whole : Grown (handle_state c.args.slots.now (ready_in c.args.ready.now)) c.args.nodes.now.items c.in-Node.kind c.args.parent (map tree_of c.in-Node.children.now) c.loop-child.nodes.items c.loop-child.counts =
    subst (λ (trees : List (AwaitTree ℕ)). Grown (handle_state c.args.slots.now (ready_in c.args.ready.now)) c.args.nodes.now.items c.in-Node.kind c.args.parent trees c.loop-child.nodes.items c.loop-child.counts)
    (all-children c.in-Node.children.now c.loop-child.child-index (omega (arith, c.loop-child-test.false))) c.loop-child.invariant in
    c.state_by.ensures ∙ grown-state (handle_state c.args.slots.now (ready_in c.args.ready.now)) c.args.nodes.now.items c.in-Node.kind c.args.parent (map tree_of c.in-Node.children.now) c.loop-child.nodes.items c.loop-child.counts
    (kind_combinator c.in-Node.kind) (tree_of c.args.future.now) whole c.in-Node.ensures.inner c.in-Node.ensures.tree
