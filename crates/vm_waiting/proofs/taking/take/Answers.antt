use Rattle.std.proofs.Common.{refl, ap, ◌∙◌, Option, Err}
use Rattle.journal_model.specs.declared.notification.NotificationResult.{NotificationResult}
use Rattle.attempt_model.specs.Results.{waiting_for}
use Rattle.vm_awaits.specs.Views.{results_of, slots_of, ready_of}
use Rattle.vm_awaits.specs.Calls.{results_after_take}
use Rattle.vm_waiting.proofs.TakeLemmas.{remembered, value_then, kept_then, takes}
use Rattle.vm_waiting.proofs.taking.take.Goals as goal

pub returns-in-Ok-clause-value : goal.returns-in-Ok-clause-value
returns-in-Ok-clause-value c =
    let done = remembered c.child_for-child.result c.is_some.result c.take_handle-brought.result c.in-Ok.taken c.args.active.now.children c.remember.new.children c.remember.result c.in-Ok.ensures c.remember.ensures.remembers c.remember.ensures.memory in
    value_then c.args.handle c.args.active.now c.child_for-child.result c.child_for-child.ensures c.is_some.result c.is_some.ensures c.take_handle-brought.result c.take_handle-brought.ensures.value c.remember.result done.0

pub returns-in-Ok-clause-rest : goal.returns-in-Ok-clause-rest
returns-in-Ok-clause-rest c =
    c.take_handle-brought.ensures.rest ∙ ap (λ (brought : Option NotificationResult). results_after_take c.args.handle brought (results_of c.args.active.now.results)) c.take_handle-brought.ensures.value

pub returns-in-Ok-clause-children : goal.returns-in-Ok-clause-children
returns-in-Ok-clause-children c =
    let done = remembered c.child_for-child.result c.is_some.result c.take_handle-brought.result c.in-Ok.taken c.args.active.now.children c.remember.new.children c.remember.result c.in-Ok.ensures c.remember.ensures.remembers c.remember.ensures.memory in
    kept_then c.args.handle c.args.active.now c.child_for-child.result c.child_for-child.ensures c.is_some.result c.is_some.ensures c.take_handle-brought.result c.take_handle-brought.ensures.value c.remember.result c.remember.new.children done.1

pub returns-in-Ok-clause-taken : goal.returns-in-Ok-clause-taken
returns-in-Ok-clause-taken c =
    λ given m checks_off sees.
    takes checks_off given m c.args.handle c.args.active.now _ sees refl (waiting_for (slots_of c.args.active.now.results) (ready_of c.args.active.now.results) c.args.handle) c.remember.result refl
    (returns-in-Ok-clause-rest c) (returns-in-Ok-clause-value c) (returns-in-Ok-clause-children c)

pub returns-in-Err-clause-value : goal.returns-in-Err-clause-value
returns-in-Err-clause-value c =
    value_then c.args.handle c.args.active.now c.child_for-child.result c.child_for-child.ensures c.is_some.result c.is_some.ensures c.take_handle-brought.result c.take_handle-brought.ensures.value (Err c.in-Err.error) c.in-Err.ensures

pub returns-in-Err-clause-rest : goal.returns-in-Err-clause-rest
returns-in-Err-clause-rest c =
    c.take_handle-brought.ensures.rest ∙ ap (λ (brought : Option NotificationResult). results_after_take c.args.handle brought (results_of c.args.active.now.results)) c.take_handle-brought.ensures.value

pub returns-in-Err-clause-children : goal.returns-in-Err-clause-children
returns-in-Err-clause-children c =
    kept_then c.args.handle c.args.active.now c.child_for-child.result c.child_for-child.ensures c.is_some.result c.is_some.ensures c.take_handle-brought.result c.take_handle-brought.ensures.value (Err c.in-Err.error) c.args.active.now.children refl

pub returns-in-Err-clause-taken : goal.returns-in-Err-clause-taken
returns-in-Err-clause-taken c =
    λ given m checks_off sees.
    takes checks_off given m c.args.handle c.args.active.now _ sees refl (waiting_for (slots_of c.args.active.now.results) (ready_of c.args.active.now.results) c.args.handle) (Err c.in-Err.error) refl
    (returns-in-Err-clause-rest c) (returns-in-Err-clause-value c) (returns-in-Err-clause-children c)
