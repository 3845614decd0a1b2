use Rattle.std.proofs.Common.{codes, sym}
use Rattle.journal_model.specs.Run.{name_or_empty}
use Rattle.journal_model.specs.declared.call.Answer.{Answer}
use Rattle.journal_model.specs.declared.call.Call.{Call}
use Rattle.protocol_differences.specs.Calls.{one_way_call_command_difference}
use Rattle.protocol_types.specs.declared.message_type.MessageType.TheVariants.{OneWayCallCommand}
use Rattle.vm_machine.proofs.Admitted.{unrefused_of, refused_as, made_by, calls_made, calls_elsewhere, calls_stopped}
use Rattle.vm_syscalls.proofs.Sends.{moment_passes, makes_sent, spent_sent, found_sent}
use Rattle.vm_syscalls.proofs.sending.sys_send.Goals as goal

pub returns-in-Admitted : goal.returns-in-Admitted
returns-in-Admitted c =
    let call = Call.Send c.args.target c.args.parameter c.args.execution_time c.args.name c.args.options in
    let told = c.refusal_error-refusal.result in
    let refused = refused_as c.args.vm.now.version c.number-number.result call _ c.refuse_target-refused.result told c.number-number.ensures c.refuse_target-refused.ensures
    c.refusal_error-refusal.ensures in
    calls_made one_way_call_command_difference call (λ made. Answer.Handle made.invocation_id_notification_handle) (codes "send delay") OneWayCallCommand (name_or_empty c.args.name) told c.args.vm.now c.admit.new.self
    c.settle.result c.settle.new.self refused c.in-Admitted.ensures
    (made_by one_way_call_command_difference call (λ made. Answer.Handle made.invocation_id_notification_handle) OneWayCallCommand (name_or_empty c.args.name) c.checks_off-ignoring.result c.admit.new.self
    c.sent-made.result c.send-put.new.active c.settle.result c.settle.new.self c.checks_off-ignoring.ensures
    (λ given m is_of sees.
    let free = unrefused_of given call _ told c.args.vm.now c.admit.new.self refused c.in-Admitted.ensures is_of in
    makes_sent c.checks_off-ignoring.result given m call c.admit.new.self.active c.send-put.new.active c.send-put.result c.sent-made.result c.sent-made.ensures
    (c.send-put.ensures.made given m c.args.execution_time (sym (c.invoke_time-time.ensures (moment_passes given.version c.args.target c.args.execution_time free))) free is_of.cancellation sees))
    c.send-put.ensures.told
    (λ spent. spent_sent c.admit.new.self.active c.send-put.new.active c.send-put.result c.sent-made.result c.sent-made.ensures (c.send-put.ensures.spent spent))
    (found_sent OneWayCallCommand c.admit.new.self.active c.send-put.new.active c.send-put.result c.sent-made.result c.sent-made.ensures c.send-put.ensures.found) c.settle.ensures)

pub returns-in-Elsewhere : goal.returns-in-Elsewhere
returns-in-Elsewhere c =
    let call = Call.Send c.args.target c.args.parameter c.args.execution_time c.args.name c.args.options in
    let told = c.refusal_error-refusal.result in
    let refused = refused_as c.args.vm.now.version c.number-number.result call _ c.refuse_target-refused.result told c.number-number.ensures c.refuse_target-refused.ensures
    c.refusal_error-refusal.ensures in
    calls_elsewhere one_way_call_command_difference call (λ made. Answer.Handle made.invocation_id_notification_handle) (codes "send delay") OneWayCallCommand (name_or_empty c.args.name) told c.args.vm.now c.admit.new.self
    c.fail_elsewhere.result c.fail_elsewhere.new.self c.or_empty.result c.or_empty.ensures refused c.in-Elsewhere.ensures c.fail_elsewhere.ensures

pub returns-in-Stopped : goal.returns-in-Stopped
returns-in-Stopped c =
    let call = Call.Send c.args.target c.args.parameter c.args.execution_time c.args.name c.args.options in
    let told = c.refusal_error-refusal.result in
    let refused = refused_as c.args.vm.now.version c.number-number.result call _ c.refuse_target-refused.result told c.number-number.ensures c.refuse_target-refused.ensures
    c.refusal_error-refusal.ensures in
    calls_stopped one_way_call_command_difference call (λ made. Answer.Handle made.invocation_id_notification_handle) (codes "send delay") OneWayCallCommand (name_or_empty c.args.name) told c.args.vm.now c.admit.new.self
    c.in-Stopped.error refused c.in-Stopped.ensures
