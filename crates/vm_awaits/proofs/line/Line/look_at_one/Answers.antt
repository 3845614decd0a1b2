use Rattle.std.proofs.Common.{◌∷◌, sym, ap, ◌∙◌}
use Rattle.journal_model.specs.Notification.{Arrival}
use Rattle.vm_awaits.specs.ReadyViews.{ready_in}
use Rattle.vm_awaits.proofs.Lining.{looks}
use Rattle.vm_awaits.proofs.line.Line.look_at_one.Goals as goal

pub returns-in-Ok-clause-ok : goal.returns-in-Ok-clause-ok
returns-in-Ok-clause-ok c =
    looks c.args.delivery c.args.self.now c.pop_front.new.self.items (ready_in c.args.ready.now) (ready_in c.push.new.self) c.in-Some.notification (sym c.self.view_is ∙ c.in-Some.ensures.items) c.in-Ok.ensures.ok

pub returns-in-Err-clause-err : goal.returns-in-Err-clause-err
returns-in-Err-clause-err c =
    (c.push_front_reserved.ensures.items ∙ ap (λ (n : Arrival). n ∷ c.pop_front.new.self.items) c.in-Err.ensures.value ∙ sym c.in-Some.ensures.items ∙ c.self.view_is, c.in-Err.ensures.err)
