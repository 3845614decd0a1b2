use Rattle.std.proofs.Common.{refl}
use Rattle.journal_model.specs.declared.call.Call.{Call}
use Rattle.vm_outcomes.proofs.Calling.{done_carried}
use Rattle.vm_core.proofs.outside.output.Goals as goal

pub returns : goal.returns
returns c =
    done_carried (Call.Output c.args.value c.args.options) c.args.vm.now.state c.sys_write_output.result c.sys_write_output.new.self.state c.done.result c.done.ensures (λ n signal. refl) (λ given m. refl) refl refl c.sys_write_output.ensures
