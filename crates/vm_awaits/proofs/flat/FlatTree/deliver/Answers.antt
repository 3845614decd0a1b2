use Rattle.std.proofs.Common.{◌≡◌, sym, ◌∙◌, arith, length}
use Rattle.std.proofs.lemmas.List.{with_items_is}
use Rattle.vm_flat_trees.specs.Counts.{state_meant}
use Rattle.vm_awaits.proofs.Keeping.{nothing-heard, pending-unheard, can-hear, looked-up, keeps-some, all-heard, few-visits}
use Rattle.vm_awaits.proofs.flat.FlatTree.deliver.Goals as goal

pub returns-then-self-clause-heard : goal.returns-then-self-clause-heard
returns-then-self-clause-heard c = nothing-heard c.self.inside.slots.now c.self.inside.nodes.items c.self.inside.is_awake c.args.self.now c.args.id.now (state_meant c.args.state) c.self.view_is c.if-self.true

pub returns-then-not-is_completed-clause-heard : goal.returns-then-not-is_completed-clause-heard
returns-then-not-is_completed-clause-heard c = pending-unheard c.self.inside.slots.now c.self.inside.nodes.items c.self.inside.leaves c.self.inside.is_awake c.args.self.now c.self.view_is c.self.invariant c.args.id.now (state_meant c.args.state) (sym c.is_completed.ensures ∙ c.if-not-is_completed.true)

pub tell_leaves-told-requires-clause-hears : goal.tell_leaves-told-requires-clause-hears
tell_leaves-told-requires-clause-hears c =
    can-hear c.self.inside.slots.now c.self.inside.nodes.items c.self.inside.leaves c.self.inside.is_awake c.args.self.now c.self.view_is c.self.invariant c.if-self.false
    c.as_mut_slice.result.now c.as_mut_slice.ensures.value c.args.id.now

pub tell_leaves-told-requires-clause-finds : goal.tell_leaves-told-requires-clause-finds
tell_leaves-told-requires-clause-finds c =
    rw (c.as_mut_slice.ensures.value ∙ sym c.as_slice.ensures.value) (c.look_up.ensures
    (looked-up c.self.inside.slots.now c.self.inside.nodes.items c.self.inside.leaves c.self.inside.is_awake c.args.self.now c.self.view_is c.self.invariant c.if-self.false
    c.as_slice.result.now c.as_slice.ensures.value))

pub invariant_of-self : goal.invariant_of-self
invariant_of-self c =
    let whole : length c.tell_leaves-told.new.nodes ≡ c.self.inside.nodes.len = omega (arith, c.tell_leaves-told.auto.nodes, c.as_mut_slice.ensures.len) in
    keeps-some c.self.inside.slots.now c.self.inside.nodes.items c.self.inside.leaves c.self.inside.is_awake c.args.self.now c.self.view_is c.self.invariant c.if-self.false c.args.id.now
    c.as_mut_slice.result.now c.as_mut_slice.ensures.value (state_meant c.args.state) c.tell_leaves-told.new.nodes c.tell_leaves-told.result.is_awake c.tell_leaves-told.result.visits c.tell_leaves-told.ensures
    _ (with_items_is c.self.inside.nodes c.tell_leaves-told.new.nodes whole) c.look_up.new.leaves
    (rw (c.as_mut_slice.ensures.value ∙ sym c.as_slice.ensures.value) (c.look_up.ensures
    (looked-up c.self.inside.slots.now c.self.inside.nodes.items c.self.inside.leaves c.self.inside.is_awake c.args.self.now c.self.view_is c.self.invariant c.if-self.false
    c.as_slice.result.now c.as_slice.ensures.value)))

pub returns-clause-heard : goal.returns-clause-heard
returns-clause-heard c =
    let whole : length c.tell_leaves-told.new.nodes ≡ c.self.inside.nodes.len = omega (arith, c.tell_leaves-told.auto.nodes, c.as_mut_slice.ensures.len) in
    all-heard c.self.inside.slots.now c.self.inside.nodes.items c.self.inside.leaves c.self.inside.is_awake c.args.self.now c.self.view_is c.self.invariant c.if-self.false c.args.id.now
    c.as_mut_slice.result.now c.as_mut_slice.ensures.value (state_meant c.args.state) c.tell_leaves-told.new.nodes c.tell_leaves-told.result.is_awake c.tell_leaves-told.result.visits c.tell_leaves-told.ensures
    _ (with_items_is c.self.inside.nodes c.tell_leaves-told.new.nodes whole)

pub returns-clause-visits : goal.returns-clause-visits
returns-clause-visits c = few-visits c.self.inside.slots.now c.self.inside.nodes.items c.self.inside.leaves c.self.inside.is_awake c.args.self.now c.self.view_is c.self.invariant c.if-self.false c.args.id.now
    c.as_mut_slice.result.now c.as_mut_slice.ensures.value (state_meant c.args.state) c.tell_leaves-told.new.nodes c.tell_leaves-told.result.is_awake c.tell_leaves-told.result.visits c.tell_leaves-told.ensures
