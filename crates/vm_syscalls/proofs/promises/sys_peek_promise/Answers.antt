use Rattle.std.proofs.Common.{[], None, refl}
use Rattle.journal_model.specs.declared.call.Answer.{Answer}
use Rattle.journal_model.specs.declared.call.Call.{Call}
use Rattle.protocol_differences.specs.Promises.{peek_promise_command_difference}
use Rattle.protocol_types.specs.declared.message_type.MessageType.TheVariants.{PeekPromiseCommand}
use Rattle.vm_machine.proofs.Admitted.{made_by, calls_made, calls_elsewhere, calls_stopped}
use Rattle.vm_syscalls.proofs.promises.sys_peek_promise.Goals as goal

pub returns-in-Admitted : goal.returns-in-Admitted
returns-in-Admitted c =
    calls_made peek_promise_command_difference (Call.PeekPromise c.args.key) (λ handle. Answer.Handle handle) [] PeekPromiseCommand [] None c.args.vm.now c.admit.new.self c.settle.result c.settle.new.self refl c.in-Admitted.ensures
    (made_by peek_promise_command_difference (Call.PeekPromise c.args.key) (λ handle. Answer.Handle handle) PeekPromiseCommand [] c.checks_off-ignoring.result c.admit.new.self c.peek_promise-made.result c.peek_promise-made.new.self c.settle.result c.settle.new.self c.checks_off-ignoring.ensures
    (λ given m is_of sees. c.peek_promise-made.ensures.made given m sees) c.peek_promise-made.ensures.told c.peek_promise-made.ensures.spent c.peek_promise-made.ensures.found c.settle.ensures)

pub returns-in-Elsewhere : goal.returns-in-Elsewhere
returns-in-Elsewhere c =
    calls_elsewhere peek_promise_command_difference (Call.PeekPromise c.args.key) (λ handle. Answer.Handle handle) [] PeekPromiseCommand [] None c.args.vm.now c.admit.new.self c.fail_elsewhere.result c.fail_elsewhere.new.self c.new.result c.new.ensures refl c.in-Elsewhere.ensures c.fail_elsewhere.ensures

pub returns-in-Stopped : goal.returns-in-Stopped
returns-in-Stopped c =
    calls_stopped peek_promise_command_difference (Call.PeekPromise c.args.key) (λ handle. Answer.Handle handle) [] PeekPromiseCommand [] None c.args.vm.now c.admit.new.self c.in-Stopped.error refl c.in-Stopped.ensures
