use Rattle.std.proofs.Common.{refl}
use Rattle.journal_model.specs.declared.call.Call.{Call}
use Rattle.vm_outcomes.proofs.Calling.{done_carried}
use Rattle.vm_core.proofs.outside.complete_awakeable.Goals as goal

pub returns : goal.returns
returns c =
    done_carried (Call.CompleteAwakeable c.args.id c.args.value c.args.options) c.args.vm.now.state c.sys_complete_awakeable.result c.sys_complete_awakeable.new.self.state c.done.result c.done.ensures (λ n signal. refl) (λ given m. refl) refl refl c.sys_complete_awakeable.ensures
