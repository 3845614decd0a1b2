use Rattle.std.proofs.Common.{sym, ap, ◌∙◌}
use Rattle.attempt_model.specs.Results.{Ready, Asleep}
use Rattle.journal_model.specs.AwaitTree.{is_completed}
use Rattle.journal_model.specs.Future.{tree_of}
use Rattle.journal_model.specs.declared.future.UnresolvedFuture.TheVariants.{Single}
use Rattle.journal_model.proofs.TreeLemmas.{tree_of-Single}
use Rattle.vm_awaits.specs.ReadyViews.{ready_in}
use Rattle.vm_awaits.proofs.Alone.{alone-starts, alone-wakes, alone-ends, alone-goes-on, alone-stops}
use Rattle.vm_awaits.proofs.Going.{on_err}
use Rattle.vm_awaits.proofs.Lining.{none_stood, one_stood, shorter}
use Rattle.vm_awaits.proofs.resolving.resolve_leaf.Goals as goal

pub steps-init : goal.steps-init
steps-init c = alone-starts c.args.delivery c.args.slots.now c.args.handle c.args.line.now (ready_in c.args.ready.now)

pub returns-then-is_completed-clause-resolved : goal.returns-then-is_completed-clause-resolved
returns-then-is_completed-clause-resolved c =
    alone-wakes c.args.delivery c.args.slots.now c.args.handle c.args.line.now (ready_in c.args.ready.now) c.steps.line (ready_in c.steps.ready) c.steps.invariant
    (sym (c.is_completed.ensures ∙ ap is_completed c.state_for.ensures) ∙ c.if-is_completed.true)

pub returns-then-not-looked-clause-resolved : goal.returns-then-not-looked-clause-resolved
returns-then-not-looked-clause-resolved c =
    let none = none_stood c.args.delivery c.in_ok-looked.looked c.steps.line (ready_in c.steps.ready) c.look_at_one.new.self (ready_in c.look_at_one.new.ready) c.in_ok-looked.ensures.ok c.if-not-looked.true in
    alone-ends c.args.delivery c.args.slots.now c.args.handle c.args.line.now (ready_in c.args.ready.now) c.steps.line (ready_in c.steps.ready) (Single c.args.handle) c.steps.invariant
    (sym (c.is_completed.ensures ∙ ap is_completed c.state_for.ensures) ∙ c.if-is_completed.false) none.none (tree_of-Single c.args.handle)
    ∙ ap (λ (waiting : Ready). Asleep (tree_of (Single c.args.handle)) waiting) (sym none.is)

pub returns-then-not-looked-clause-left : goal.returns-then-not-looked-clause-left
returns-then-not-looked-clause-left c =
    (none_stood c.args.delivery c.in_ok-looked.looked c.steps.line (ready_in c.steps.ready) c.look_at_one.new.self (ready_in c.look_at_one.new.ready) c.in_ok-looked.ensures.ok c.if-not-looked.true).left

pub steps-preserved : goal.steps-preserved
steps-preserved c =
    let one = one_stood c.args.delivery c.in_ok-looked.looked c.steps.line (ready_in c.steps.ready) c.look_at_one.new.self (ready_in c.look_at_one.new.ready) c.in_ok-looked.ensures.ok c.if-not-looked.false in
    alone-goes-on c.args.delivery c.args.slots.now c.args.handle c.args.line.now (ready_in c.args.ready.now) c.steps.line one.behind c.look_at_one.new.self (ready_in c.steps.ready) (ready_in c.look_at_one.new.ready) one.arrival c.steps.invariant
    (sym (c.is_completed.ensures ∙ ap is_completed c.state_for.ensures) ∙ c.if-is_completed.false) one.front one.left one.is

pub steps-smaller : goal.steps-smaller
steps-smaller c =
    let one = one_stood c.args.delivery c.in_ok-looked.looked c.steps.line (ready_in c.steps.ready) c.look_at_one.new.self (ready_in c.look_at_one.new.ready) c.in_ok-looked.ensures.ok c.if-not-looked.false in
    shorter c.steps.line c.look_at_one.new.self one.behind one.arrival one.front one.left

pub returns-in_err-looked-clause-err : goal.returns-in_err-looked-clause-err
returns-in_err-looked-clause-err c = on_err c.from_residual.result
    (alone-stops c.args.delivery c.args.slots.now c.args.handle c.args.line.now (ready_in c.args.ready.now) c.steps.line c.look_at_one.new.self (ready_in c.steps.ready) (ready_in c.look_at_one.new.ready) c.steps.invariant
    c.in_err-looked.ensures.err.0 c.in_err-looked.ensures.err.1)
