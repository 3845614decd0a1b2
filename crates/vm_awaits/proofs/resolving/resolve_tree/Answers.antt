use Rattle.std.proofs.Common.{refl, sym, ◌∙◌}
use Rattle.journal_model.specs.Future.{tree_of}
use Rattle.vm_flat_trees.specs.Counts.{state_meant}
use Rattle.vm_awaits.specs.ReadyViews.{ready_in}
use Rattle.vm_awaits.proofs.Going.{starts, wakes, ends, goes_on, stops, stops-first, on_err}
use Rattle.vm_awaits.proofs.Lining.{none_first, first_stood, shorter}
use Rattle.vm_awaits.proofs.resolving.resolve_tree.Goals as goal

pub returns-in_err-flat-clause-err : goal.returns-in_err-flat-clause-err
returns-in_err-flat-clause-err c = on_err c.from_residual.result (stops-first c.args.delivery c.args.slots.now (tree_of c.args.future) c.args.line.now (ready_in c.args.ready.now) c.args.line.now (ready_in c.args.ready.now) refl refl)

pub steps-init : goal.steps-init
steps-init c = starts c.args.delivery c.args.slots.now (tree_of c.args.future) c.args.line.now (ready_in c.args.ready.now) c.in_ok-flat.flat c.in_ok-flat.ensures

pub returns-then-is_awake-clause-resolved : goal.returns-then-is_awake-clause-resolved
returns-then-is_awake-clause-resolved c =
    wakes c.args.delivery c.args.slots.now (tree_of c.args.future) c.args.line.now (ready_in c.args.ready.now) c.steps.flat c.steps.line (ready_in c.steps.ready) c.steps.invariant
    (sym c.is_awake.ensures ∙ c.if-is_awake.true)

pub returns-in_err-left-clause-err : goal.returns-in_err-left-clause-err
returns-in_err-left-clause-err c = on_err c.from_residual-in_err-left.result
    (stops c.args.delivery c.args.slots.now (tree_of c.args.future) c.args.line.now (ready_in c.args.ready.now) c.steps.flat c.steps.line c.steps.line (ready_in c.steps.ready) (ready_in c.steps.ready) c.steps.invariant refl refl)

pub returns-in_default-clause-resolved : goal.returns-in_default-clause-resolved
returns-in_default-clause-resolved c =
    ends c.args.delivery c.args.slots.now (tree_of c.args.future) c.args.line.now (ready_in c.args.ready.now) c.steps.flat c.steps.line (ready_in c.steps.ready) c.in_ok-left.left c.steps.invariant
    (sym c.is_awake.ensures ∙ c.if-is_awake.false)
    (none_first c.steps.line (sym c.in_default.ensures)) c.in_ok-left.ensures

pub returns-in_default-clause-left : goal.returns-in_default-clause-left
returns-in_default-clause-left c = none_first c.steps.line (sym c.in_default.ensures)

pub steps-preserved : goal.steps-preserved
steps-preserved c =
    let first = first_stood c.args.delivery c.in_ok-look_at_one.field-0 c.steps.line (ready_in c.steps.ready) c.look_at_one.new.self (ready_in c.look_at_one.new.ready) c.in-Some.notification.now c.in_ok-look_at_one.ensures.ok (sym c.in-Some.ensures) in
    goes_on c.args.delivery c.args.slots.now (tree_of c.args.future) c.args.line.now (ready_in c.args.ready.now) c.steps.flat c.deliver.new.self c.steps.line first.0 c.look_at_one.new.self (ready_in c.steps.ready) (ready_in c.look_at_one.new.ready)
    c.in-Some.notification.now (state_meant c.result_state.result) c.steps.invariant
    (sym c.is_awake.ensures ∙ c.if-is_awake.false)
    first.1 first.2 first.3 c.result_state.ensures c.deliver.ensures.heard

pub steps-smaller : goal.steps-smaller
steps-smaller c =
    let first = first_stood c.args.delivery c.in_ok-look_at_one.field-0 c.steps.line (ready_in c.steps.ready) c.look_at_one.new.self (ready_in c.look_at_one.new.ready) c.in-Some.notification.now c.in_ok-look_at_one.ensures.ok (sym c.in-Some.ensures) in
    shorter c.steps.line c.look_at_one.new.self first.0 c.in-Some.notification.now first.1 first.2

pub returns-in_err-look_at_one-clause-err : goal.returns-in_err-look_at_one-clause-err
returns-in_err-look_at_one-clause-err c = on_err c.from_residual-in_err-look_at_one.result
    (stops c.args.delivery c.args.slots.now (tree_of c.args.future) c.args.line.now (ready_in c.args.ready.now) c.steps.flat c.steps.line c.look_at_one.new.self (ready_in c.steps.ready) (ready_in c.look_at_one.new.ready) c.steps.invariant
    c.in_err-look_at_one.ensures.err.0 c.in_err-look_at_one.ensures.err.1)
