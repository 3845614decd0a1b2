use Rattle.std.proofs.Common.{OnOk, subst}
use Rattle.journal_model.specs.Notification.{Bytes}
use Rattle.journal_model.specs.Request.{Request}
use Rattle.vm_context.specs.StateKnowledge.{Follows}
use Rattle.vm_calls.proofs.state_writes.set_known.Goals as goal

pub returns : goal.returns
returns c =
    subst (λ (value : Bytes). OnOk c.set-2.result (Follows (λ name. Request.SetState c.args.key.now value name) c.args.state.now c.set-2.new.self))
    c.in_ok-clone-2.ensures.cases
    (subst (λ (key : Bytes). OnOk c.set-2.result (Follows (λ name. Request.SetState key c.in_ok-clone-2.field-0 name) c.args.state.now c.set-2.new.self))
    c.in_ok-clone.ensures.cases c.set-2.ensures.knows)
