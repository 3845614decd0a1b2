use Rattle.std.proofs.Common.{OnOk, subst}
use Rattle.journal_model.specs.Notification.{Bytes}
use Rattle.journal_model.specs.Request.{Request}
use Rattle.vm_context.specs.StateKnowledge.{Follows}
use Rattle.vm_calls.proofs.state_writes.clear_known.Goals as goal

pub returns : goal.returns
returns c =
    subst (λ (key : Bytes). OnOk c.clear.result (Follows (λ name. Request.ClearState key name) c.args.state.now c.clear.new.self))
    c.in_ok-clone.ensures.cases c.clear.ensures.knows
