use Rattle.std.proofs.Common.{[]}
use Rattle.journal_model.specs.declared.call.Answer.{Answer}
use Rattle.journal_model.specs.declared.call.Call.{Call}
use Rattle.protocol_differences.specs.Promises.{complete_promise_command_difference}
use Rattle.protocol_types.specs.declared.message_type.MessageType.TheVariants.{CompletePromiseCommand}
use Rattle.vm_machine.proofs.Admitted.{unrefused_of, refused_as, made_by, calls_made, calls_elsewhere, calls_stopped}
use Rattle.vm_syscalls.proofs.promises.sys_complete_promise.Goals as goal

pub returns-in-Admitted : goal.returns-in-Admitted
returns-in-Admitted c =
    let told = c.refusal_error-refusal.result in
    let refused = refused_as c.args.vm.now.version c.number-number.result (Call.CompletePromise c.args.key c.args.value c.args.options) _ c.refuse_value-refused.result told c.number-number.ensures c.refuse_value-refused.ensures c.refusal_error-refusal.ensures in
    calls_made complete_promise_command_difference (Call.CompletePromise c.args.key c.args.value c.args.options) (λ handle. Answer.Handle handle) [] CompletePromiseCommand [] told c.args.vm.now c.admit.new.self c.settle.result c.settle.new.self refused c.in-Admitted.ensures
    (made_by complete_promise_command_difference (Call.CompletePromise c.args.key c.args.value c.args.options) (λ handle. Answer.Handle handle) CompletePromiseCommand [] c.checks_off-ignoring.result c.admit.new.self c.complete_promise-made.result c.complete_promise-made.new.self c.settle.result c.settle.new.self c.checks_off-ignoring.ensures
    (λ given m is_of sees. c.complete_promise-made.ensures.made given m (unrefused_of given (Call.CompletePromise c.args.key c.args.value c.args.options) _ told c.args.vm.now c.admit.new.self refused c.in-Admitted.ensures is_of) sees) c.complete_promise-made.ensures.told c.complete_promise-made.ensures.spent c.complete_promise-made.ensures.found c.settle.ensures)

pub returns-in-Elsewhere : goal.returns-in-Elsewhere
returns-in-Elsewhere c =
    let told = c.refusal_error-refusal.result in
    let refused = refused_as c.args.vm.now.version c.number-number.result (Call.CompletePromise c.args.key c.args.value c.args.options) _ c.refuse_value-refused.result told c.number-number.ensures c.refuse_value-refused.ensures c.refusal_error-refusal.ensures in
    calls_elsewhere complete_promise_command_difference (Call.CompletePromise c.args.key c.args.value c.args.options) (λ handle. Answer.Handle handle) [] CompletePromiseCommand [] told c.args.vm.now c.admit.new.self c.fail_elsewhere.result c.fail_elsewhere.new.self c.new.result c.new.ensures refused c.in-Elsewhere.ensures c.fail_elsewhere.ensures

pub returns-in-Stopped : goal.returns-in-Stopped
returns-in-Stopped c =
    let told = c.refusal_error-refusal.result in
    let refused = refused_as c.args.vm.now.version c.number-number.result (Call.CompletePromise c.args.key c.args.value c.args.options) _ c.refuse_value-refused.result told c.number-number.ensures c.refuse_value-refused.ensures c.refusal_error-refusal.ensures in
    calls_stopped complete_promise_command_difference (Call.CompletePromise c.args.key c.args.value c.args.options) (λ handle. Answer.Handle handle) [] CompletePromiseCommand [] told c.args.vm.now c.admit.new.self c.in-Stopped.error refused c.in-Stopped.ensures
