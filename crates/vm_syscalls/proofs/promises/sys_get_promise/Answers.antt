use Rattle.std.proofs.Common.{[], None, refl}
use Rattle.journal_model.specs.declared.call.Answer.{Answer}
use Rattle.journal_model.specs.declared.call.Call.{Call}
use Rattle.protocol_differences.specs.Promises.{get_promise_command_difference}
use Rattle.protocol_types.specs.declared.message_type.MessageType.TheVariants.{GetPromiseCommand}
use Rattle.vm_machine.proofs.Admitted.{made_by, calls_made, calls_elsewhere, calls_stopped}
use Rattle.vm_syscalls.proofs.promises.sys_get_promise.Goals as goal

pub returns-in-Admitted : goal.returns-in-Admitted
returns-in-Admitted c =
    calls_made get_promise_command_difference (Call.GetPromise c.args.key) (λ handle. Answer.Handle handle) [] GetPromiseCommand [] None c.args.vm.now c.admit.new.self c.settle.result c.settle.new.self refl c.in-Admitted.ensures
    (made_by get_promise_command_difference (Call.GetPromise c.args.key) (λ handle. Answer.Handle handle) GetPromiseCommand [] c.checks_off-ignoring.result c.admit.new.self c.get_promise-made.result c.get_promise-made.new.self c.settle.result c.settle.new.self c.checks_off-ignoring.ensures
    (λ given m is_of sees. c.get_promise-made.ensures.made given m sees) c.get_promise-made.ensures.told c.get_promise-made.ensures.spent c.get_promise-made.ensures.found c.settle.ensures)

pub returns-in-Elsewhere : goal.returns-in-Elsewhere
returns-in-Elsewhere c =
    calls_elsewhere get_promise_command_difference (Call.GetPromise c.args.key) (λ handle. Answer.Handle handle) [] GetPromiseCommand [] None c.args.vm.now c.admit.new.self c.fail_elsewhere.result c.fail_elsewhere.new.self c.new.result c.new.ensures refl c.in-Elsewhere.ensures c.fail_elsewhere.ensures

pub returns-in-Stopped : goal.returns-in-Stopped
returns-in-Stopped c =
    calls_stopped get_promise_command_difference (Call.GetPromise c.args.key) (λ handle. Answer.Handle handle) [] GetPromiseCommand [] None c.args.vm.now c.admit.new.self c.in-Stopped.error refl c.in-Stopped.ensures
