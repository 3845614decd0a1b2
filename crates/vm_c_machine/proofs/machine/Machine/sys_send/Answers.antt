use Rattle.std.proofs.Common.{◌≡◌, refl, rules}
use Rattle.vm_types.specs.declared.handles.SendHandle.{SendHandle}
use Rattle.vm_c_machine.proofs.Calling.{sent}
use Rattle.vm_c_machine.proofs.machine.Machine.sys_send.Goals as goal

pub returns-in-Ok : goal.returns-in-Ok
returns-in-Ok c =
    let same : c.in-Ok.made ≡ record { invocation_id_notification_handle = c.number.result } = rw c.number.ensures in (
      c.in_ok-named.ensures.0,
      (
        search rules,
        sent c.in_ok-named.named _ c.in_ok-parameter.parameter c.args.parameter.now c.moment_given-at.result _ c.payload_options-options.result _ c.in-Ok.made (record { invocation_id_notification_handle = c.number.result }) c.args.self.now.vm.state
            c.sys_send.new.self.state c.in_ok-named.ensures.1 c.in_ok-parameter.ensures.ok c.moment_given-at.ensures c.payload_options-options.ensures same c.in-Ok.ensures,
        refl,
      ),
    )
