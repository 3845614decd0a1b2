use Rattle.std.proofs.Common.{[]}
use Rattle.journal_model.specs.declared.call.Answer.{Answer}
use Rattle.journal_model.specs.declared.call.Call.{Call}
use Rattle.protocol_differences.specs.Invocations.{attach_invocation_command_difference}
use Rattle.protocol_types.specs.declared.message_type.MessageType.TheVariants.{AttachInvocationCommand}
use Rattle.vm_machine.proofs.Admitted.{unrefused_of, refused_as, made_by, calls_made, calls_elsewhere, calls_stopped}
use Rattle.vm_syscalls.proofs.attaching.sys_attach_invocation.Goals as goal

pub returns-in-Admitted : goal.returns-in-Admitted
returns-in-Admitted c =
    let told = c.refusal_error-refusal.result in
    let refused = refused_as c.args.vm.now.version c.number-number.result (Call.Attach c.args.target) _ c.refuse_attach-refused.result told c.number-number.ensures c.refuse_attach-refused.ensures c.refusal_error-refusal.ensures in
    calls_made attach_invocation_command_difference (Call.Attach c.args.target) (λ handle. Answer.Handle handle) [] AttachInvocationCommand [] told c.args.vm.now c.admit.new.self c.settle.result c.settle.new.self refused c.in-Admitted.ensures
    (made_by attach_invocation_command_difference (Call.Attach c.args.target) (λ handle. Answer.Handle handle) AttachInvocationCommand [] c.checks_off-ignoring.result c.admit.new.self c.attach-made.result c.attach-made.new.active c.settle.result c.settle.new.self c.checks_off-ignoring.ensures
    (λ given m is_of sees. c.attach-made.ensures.made given m (unrefused_of given (Call.Attach c.args.target) _ told c.args.vm.now c.admit.new.self refused c.in-Admitted.ensures is_of) sees) c.attach-made.ensures.told c.attach-made.ensures.spent c.attach-made.ensures.found c.settle.ensures)

pub returns-in-Elsewhere : goal.returns-in-Elsewhere
returns-in-Elsewhere c =
    let told = c.refusal_error-refusal.result in
    let refused = refused_as c.args.vm.now.version c.number-number.result (Call.Attach c.args.target) _ c.refuse_attach-refused.result told c.number-number.ensures c.refuse_attach-refused.ensures c.refusal_error-refusal.ensures in
    calls_elsewhere attach_invocation_command_difference (Call.Attach c.args.target) (λ handle. Answer.Handle handle) [] AttachInvocationCommand [] told c.args.vm.now c.admit.new.self c.fail_elsewhere.result c.fail_elsewhere.new.self c.new.result c.new.ensures refused c.in-Elsewhere.ensures c.fail_elsewhere.ensures

pub returns-in-Stopped : goal.returns-in-Stopped
returns-in-Stopped c =
    let told = c.refusal_error-refusal.result in
    let refused = refused_as c.args.vm.now.version c.number-number.result (Call.Attach c.args.target) _ c.refuse_attach-refused.result told c.number-number.ensures c.refuse_attach-refused.ensures c.refusal_error-refusal.ensures in
    calls_stopped attach_invocation_command_difference (Call.Attach c.args.target) (λ handle. Answer.Handle handle) [] AttachInvocationCommand [] told c.args.vm.now c.admit.new.self c.in-Stopped.error refused c.in-Stopped.ensures
