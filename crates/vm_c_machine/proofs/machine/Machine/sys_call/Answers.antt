use Rattle.std.proofs.Common.{◌≡◌, refl, rules}
use Rattle.vm_types.specs.declared.handles.CallHandle.{CallHandle}
use Rattle.vm_c_machine.proofs.Calling.{called}
use Rattle.vm_c_machine.proofs.machine.Machine.sys_call.Goals as goal

pub returns-in-Ok : goal.returns-in-Ok
returns-in-Ok c =
    let same : c.in-Ok.made ≡ record { invocation_id_notification_handle = c.number.result; call_notification_handle = c.number-in-Ok.result } = rw (c.number.ensures, c.number-in-Ok.ensures) in (
      c.in_ok-named.ensures.0,
      (
        search rules,
        called c.in_ok-named.named _ c.in_ok-parameter.parameter c.args.parameter.now c.payload_options-options.result _ c.in-Ok.made (record { invocation_id_notification_handle = c.number.result; call_notification_handle = c.number-in-Ok.result }) c.args.self.now.vm.state c.sys_call.new.self.state
            c.in_ok-named.ensures.1 c.in_ok-parameter.ensures.ok c.payload_options-options.ensures same c.in-Ok.ensures,
        refl,
      ),
    )
