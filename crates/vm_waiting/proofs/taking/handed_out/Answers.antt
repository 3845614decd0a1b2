use Rattle.std.proofs.Common.{sym, subst, Option, Some, Err}
use Rattle.journal_model.specs.declared.notification.NotificationResult.{NotificationResult}
use Rattle.vm_waiting.specs.TakeEffects.{IsResultTaken}
use Rattle.vm_waiting.specs.declared.taking.TakeError.{TakeError}
use Rattle.vm_waiting.proofs.TakeLemmas.{not_taken}
use Rattle.vm_waiting.proofs.taking.handed_out.Goals as goal

pub returns-in-Err : goal.returns-in-Err
returns-in-Err c =
    subst (λ (brought : Option NotificationResult). IsResultTaken c.args.of_child brought (Err c.taken_error.result)) (sym c.in-Some.is)
    (subst (λ (error : TakeError). IsResultTaken c.args.of_child (Some c.in-Some.brought) (Err error)) (sym c.taken_error.ensures) (not_taken c.args.of_child c.in-Some.brought c.in-Err.error c.in-Err.ensures.err))
