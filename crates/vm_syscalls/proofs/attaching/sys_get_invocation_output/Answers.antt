use Rattle.std.proofs.Common.{[]}
use Rattle.journal_model.specs.declared.call.Answer.{Answer}
use Rattle.journal_model.specs.declared.call.Call.{Call}
use Rattle.protocol_differences.specs.Invocations.{get_invocation_output_command_difference}
use Rattle.protocol_types.specs.declared.message_type.MessageType.TheVariants.{GetInvocationOutputCommand}
use Rattle.vm_machine.proofs.Admitted.{unrefused_of, refused_as, made_by, calls_made, calls_elsewhere, calls_stopped}
use Rattle.vm_syscalls.proofs.attaching.sys_get_invocation_output.Goals as goal

pub returns-in-Admitted : goal.returns-in-Admitted
returns-in-Admitted c =
    let told = c.refusal_error-refusal.result in
    let refused = refused_as c.args.vm.now.version c.number-number.result (Call.GetOutput c.args.target) _ c.refuse_attach-refused.result told c.number-number.ensures c.refuse_attach-refused.ensures c.refusal_error-refusal.ensures in
    calls_made get_invocation_output_command_difference (Call.GetOutput c.args.target) (λ handle. Answer.Handle handle) [] GetInvocationOutputCommand [] told c.args.vm.now c.admit.new.self c.settle.result c.settle.new.self refused c.in-Admitted.ensures
    (made_by get_invocation_output_command_difference (Call.GetOutput c.args.target) (λ handle. Answer.Handle handle) GetInvocationOutputCommand [] c.checks_off-ignoring.result c.admit.new.self c.get_output-made.result c.get_output-made.new.active c.settle.result c.settle.new.self c.checks_off-ignoring.ensures
    (λ given m is_of sees. c.get_output-made.ensures.made given m (unrefused_of given (Call.GetOutput c.args.target) _ told c.args.vm.now c.admit.new.self refused c.in-Admitted.ensures is_of) sees) c.get_output-made.ensures.told c.get_output-made.ensures.spent c.get_output-made.ensures.found c.settle.ensures)

pub returns-in-Elsewhere : goal.returns-in-Elsewhere
returns-in-Elsewhere c =
    let told = c.refusal_error-refusal.result in
    let refused = refused_as c.args.vm.now.version c.number-number.result (Call.GetOutput c.args.target) _ c.refuse_attach-refused.result told c.number-number.ensures c.refuse_attach-refused.ensures c.refusal_error-refusal.ensures in
    calls_elsewhere get_invocation_output_command_difference (Call.GetOutput c.args.target) (λ handle. Answer.Handle handle) [] GetInvocationOutputCommand [] told c.args.vm.now c.admit.new.self c.fail_elsewhere.result c.fail_elsewhere.new.self c.new.result c.new.ensures refused c.in-Elsewhere.ensures c.fail_elsewhere.ensures

pub returns-in-Stopped : goal.returns-in-Stopped
returns-in-Stopped c =
    let told = c.refusal_error-refusal.result in
    let refused = refused_as c.args.vm.now.version c.number-number.result (Call.GetOutput c.args.target) _ c.refuse_attach-refused.result told c.number-number.ensures c.refuse_attach-refused.ensures c.refusal_error-refusal.ensures in
    calls_stopped get_invocation_output_command_difference (Call.GetOutput c.args.target) (λ handle. Answer.Handle handle) [] GetInvocationOutputCommand [] told c.args.vm.now c.admit.new.self c.in-Stopped.error refused c.in-Stopped.ensures
