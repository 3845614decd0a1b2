use Rattle.std.proofs.Common.{None, subst}
use Rattle.vm_start.specs.Phases.{kept_error}
use Rattle.vm_machine.proofs.Admitted.{admitted_free}
use Rattle.vm_machine.specs.declared.machine_state.MachineState.{MachineState}
use Rattle.vm_feeding.specs.Handles.{started_id, IsNamed}
use Rattle.vm_feeding.proofs.Texts.{made_text}
use Rattle.vm_feeding.proofs.awakeables.sys_awakeable.Goals as goal

pub returns-in-Admitted-clause-text : goal.returns-in-Admitted-clause-text
returns-in-Admitted-clause-text c =
    let free = admitted_free (kept_error c.args.vm.now.phase) None c.args.vm.now c.admit.new.self c.in-Admitted.ensures in
    subst (λ (vm : MachineState). IsNamed (started_id vm.start) vm.active c.make.result) free.1
    (made_text c.admit.new.self.options.journal_replay c.admit.new.self c.make.result c.make.new.vm c.make.ensures)
