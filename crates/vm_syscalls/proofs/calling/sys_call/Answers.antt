use Rattle.std.proofs.Common.{[]}
use Rattle.journal_model.specs.Run.{name_or_empty}
use Rattle.journal_model.specs.declared.call.Answer.{Answer}
use Rattle.journal_model.specs.declared.call.Call.{Call}
use Rattle.protocol_differences.specs.Calls.{call_command_difference}
use Rattle.protocol_types.specs.declared.message_type.MessageType.TheVariants.{CallCommand}
use Rattle.vm_machine.proofs.Admitted.{unrefused_of, refused_as, made_by, calls_made, calls_elsewhere, calls_stopped}
use Rattle.vm_syscalls.proofs.calling.sys_call.Goals as goal

pub returns-in-Admitted : goal.returns-in-Admitted
returns-in-Admitted c =
    let told = c.refusal_error-refusal.result in
    let refused = refused_as c.args.vm.now.version c.number-number.result (Call.Call c.args.target c.args.parameter c.args.name c.args.options) _ c.refuse_target-refused.result told c.number-number.ensures c.refuse_target-refused.ensures c.refusal_error-refusal.ensures in
    calls_made call_command_difference (Call.Call c.args.target c.args.parameter c.args.name c.args.options) (λ made. Answer.Handles made.invocation_id_notification_handle made.call_notification_handle) [] CallCommand (name_or_empty c.args.name) told c.args.vm.now c.admit.new.self c.settle.result c.settle.new.self refused c.in-Admitted.ensures
    (made_by call_command_difference (Call.Call c.args.target c.args.parameter c.args.name c.args.options) (λ made. Answer.Handles made.invocation_id_notification_handle made.call_notification_handle) CallCommand (name_or_empty c.args.name) c.checks_off-ignoring.result c.admit.new.self c.call-made.result c.call-made.new.active c.settle.result c.settle.new.self c.checks_off-ignoring.ensures
    (λ given m is_of sees. c.call-made.ensures.made given m (unrefused_of given (Call.Call c.args.target c.args.parameter c.args.name c.args.options) _ told c.args.vm.now c.admit.new.self refused c.in-Admitted.ensures is_of) is_of.cancellation sees) c.call-made.ensures.told c.call-made.ensures.spent c.call-made.ensures.found c.settle.ensures)

pub returns-in-Elsewhere : goal.returns-in-Elsewhere
returns-in-Elsewhere c =
    let told = c.refusal_error-refusal.result in
    let refused = refused_as c.args.vm.now.version c.number-number.result (Call.Call c.args.target c.args.parameter c.args.name c.args.options) _ c.refuse_target-refused.result told c.number-number.ensures c.refuse_target-refused.ensures c.refusal_error-refusal.ensures in
    calls_elsewhere call_command_difference (Call.Call c.args.target c.args.parameter c.args.name c.args.options) (λ made. Answer.Handles made.invocation_id_notification_handle made.call_notification_handle) [] CallCommand (name_or_empty c.args.name) told c.args.vm.now c.admit.new.self c.fail_elsewhere.result c.fail_elsewhere.new.self c.or_empty.result c.or_empty.ensures refused c.in-Elsewhere.ensures c.fail_elsewhere.ensures

pub returns-in-Stopped : goal.returns-in-Stopped
returns-in-Stopped c =
    let told = c.refusal_error-refusal.result in
    let refused = refused_as c.args.vm.now.version c.number-number.result (Call.Call c.args.target c.args.parameter c.args.name c.args.options) _ c.refuse_target-refused.result told c.number-number.ensures c.refuse_target-refused.ensures c.refusal_error-refusal.ensures in
    calls_stopped call_command_difference (Call.Call c.args.target c.args.parameter c.args.name c.args.options) (λ made. Answer.Handles made.invocation_id_notification_handle made.call_notification_handle) [] CallCommand (name_or_empty c.args.name) told c.args.vm.now c.admit.new.self c.in-Stopped.error refused c.in-Stopped.ensures
