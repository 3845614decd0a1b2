use Rattle.std.proofs.Common.{Ok, Err, refl}
use Rattle.journal_model.specs.declared.call.Answer.{Answer}
use Rattle.journal_model.specs.declared.call.Call.{Call}
use Rattle.vm_types.specs.declared.handles.SendHandle.{SendHandle}
use Rattle.vm_outcomes.specs.declared.outcome.CallOutcome.TheVariants.{Answered, Failed}
use Rattle.vm_outcomes.proofs.Calling.{carried}
use Rattle.vm_core.proofs.invocations.send.Goals as goal

pub returns-in-Ok : goal.returns-in-Ok
returns-in-Ok c =
    carried (Call.Send c.args.target c.args.input c.args.execution_time c.args.name c.args.options)
    (λ (made : SendHandle). Answer.Handle made.invocation_id_notification_handle)
    c.args.vm.now.state (Ok c.in-Ok.made) c.sys_send.new.self.state (Answered (Answer.Handle c.in-Ok.made.invocation_id_notification_handle))
    refl (λ n signal. refl) (λ given m. refl) refl refl c.in-Ok.ensures

pub returns-in-Err : goal.returns-in-Err
returns-in-Err c =
    carried (Call.Send c.args.target c.args.input c.args.execution_time c.args.name c.args.options)
    (λ (made : SendHandle). Answer.Handle made.invocation_id_notification_handle)
    c.args.vm.now.state (Err c.in-Err.error) c.sys_send.new.self.state (Failed c.in-Err.error) refl (λ n signal. refl) (λ given m. refl) refl refl c.in-Err.ensures
