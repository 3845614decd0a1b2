use Rattle.std.proofs.Common.{sym, ap, subst, ◌∙◌, List, map, length, Result, Err}
use Rattle.std.proofs.lemmas.Result.{err_from_is_err_and}
use Rattle.std.specs.Vec.Iter.{into_iter_items, into_iter_len}
use Rattle.journal_model.specs.Notification.{Text}
use Rattle.vm_waiting.specs.ChildCancellation.{cancels, PutsEach}
use Rattle.vm_waiting.specs.declared.cancelling.CancelError.{CancelError}
use Rattle.vm_waiting.proofs.PuttingAll.{PutsOn, puts_first, puts_next, stops_next, one_less}
use Rattle.vm_waiting.proofs.cancelling.put_cancels.Goals as goal

pub loop-id-init : goal.loop-id-init
loop-id-init c =
    let h = c.into_iter-id-iterator.ensures.into_iter_gives in (
      h.1 ∙ c.args.ids.ok.0 ∙ sym (ap (λ (ids : List Text). length ids) h.0),
      subst (λ (left : List Text). PutsOn c.args.checks_off c.args.ids.items left c.args.active.now c.args.active.now) (sym h.0) (puts_first c.args.checks_off c.args.ids.items c.args.active.now),
    )

pub loop-id-preserved : goal.loop-id-preserved
loop-id-preserved c =
    let left = into_iter_items c.loop-id.id-iterator in
    let rest = into_iter_items c.next.new.self in
    let steps = c.in-Some.ensures.steps in (
      one_less left rest c.in-Some.id (into_iter_len c.loop-id.id-iterator) (into_iter_len c.next.new.self) c.loop-id.invariant.0 steps.0 steps.1,
      puts_next c.args.checks_off c.args.ids.items c.args.active.now c.in-Some.id left rest c.loop-id.active c.loop-id.invariant.1 steps.0 c.put_cancel.new.active
          c.in_ok-put_cancel.ensures.puts c.in_ok-put_cancel.ensures.spent,
    )

pub returns-in_err-put_cancel-clause-puts : goal.returns-in_err-put_cancel-clause-puts
returns-in_err-put_cancel-clause-puts c =
    λ written settled.
    let told = err_from_is_err_and c.from_residual.result c.from_residual.ensures.1 in
    subst (λ (r : Result (Unit {0}) CancelError). PutsEach c.args.checks_off (map cancels c.args.ids.items) written c.args.active.now r c.put_cancel.new.active) (sym (told.1 ∙ ap Err told.2))
    (stops_next c.args.checks_off c.args.ids.items c.args.active.now c.in-Some.id (into_iter_items c.loop-id.id-iterator) (into_iter_items c.next.new.self) c.loop-id.active c.loop-id.invariant.1
    c.in-Some.ensures.steps.0 c.in_err-put_cancel.field-0.0 c.put_cancel.new.active c.in_err-put_cancel.ensures.puts written settled)
