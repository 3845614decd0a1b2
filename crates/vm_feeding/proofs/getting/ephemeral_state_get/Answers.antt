use Rattle.std.proofs.Common.{None}
use Rattle.vm_machine.specs.declared.machine_state.MachineState.{MachineState}
use Rattle.vm_machine.proofs.Admitted.{steps_made, steps_elsewhere, steps_stopped}
use Rattle.vm_feeding.specs.Refusals.{lacks_reads}
use Rattle.vm_feeding.specs.EphemeralStateReads.{GetsIn, MissesIn}
use Rattle.vm_feeding.proofs.getting.ephemeral_state_get.Goals as goal

pub returns-in-Admitted : goal.returns-in-Admitted
returns-in-Admitted c =
    steps_made (λ (old : MachineState). GetsIn (lacks_reads old.version) c.args.key old) (λ (old : MachineState). MissesIn (lacks_reads old.version) old) None c.args.vm.now c.admit.new.self
    c.make.result c.make.new.vm c.in-Admitted.ensures c.make.ensures

pub returns-in-Elsewhere : goal.returns-in-Elsewhere
returns-in-Elsewhere c =
    steps_elsewhere (λ (old : MachineState). GetsIn (lacks_reads old.version) c.args.key old) (λ (old : MachineState). MissesIn (lacks_reads old.version) old) None c.args.vm.now c.admit.new.self
    c.miss.result c.miss.new.vm c.in-Elsewhere.ensures c.miss.ensures

pub returns-in-Stopped : goal.returns-in-Stopped
returns-in-Stopped c =
    steps_stopped (λ (old : MachineState). GetsIn (lacks_reads old.version) c.args.key old) (λ (old : MachineState). MissesIn (lacks_reads old.version) old) None c.args.vm.now c.admit.new.self
    c.in-Stopped.error c.in-Stopped.ensures
