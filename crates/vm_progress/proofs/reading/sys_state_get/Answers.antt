use Rattle.journal_model.specs.Run.{name_or_empty}
use Rattle.journal_model.specs.declared.call.Call.{Call}
use Rattle.vm_context.specs.Eager.{is_known}
use Rattle.vm_progress.specs.StateReadEffects.{value_read}
use Rattle.vm_progress.proofs.Made.{read_made, read_elsewhere, read_stopped}
use Rattle.vm_progress.proofs.reading.sys_state_get.Goals as goal

pub returns-in-Admitted : goal.returns-in-Admitted
returns-in-Admitted c =
    read_made value_read (Call.StateGet c.args.key c.args.name c.args.options) (λ active. is_known active.state c.args.key) (name_or_empty c.args.name) c.args.vm.now c.admit.new.self c.checks_off-ignoring.result
    c.state_get-made.result c.state_get-made.new.active c.settle_read.result c.settle_read.new.vm c.in-Admitted.ensures c.checks_off-ignoring.ensures c.state_get-made.ensures.made
    c.state_get-made.ensures.told c.state_get-made.ensures.spent c.state_get-made.ensures.found c.settle_read.ensures

pub returns-in-Elsewhere : goal.returns-in-Elsewhere
returns-in-Elsewhere c =
    read_elsewhere value_read (Call.StateGet c.args.key c.args.name c.args.options) (λ active. is_known active.state c.args.key) (name_or_empty c.args.name) c.args.vm.now c.admit.new.self c.fail_next.result c.fail_next.new.vm
    c.in-Elsewhere.ensures c.fail_next.ensures

pub returns-in-Stopped : goal.returns-in-Stopped
returns-in-Stopped c =
    read_stopped value_read (Call.StateGet c.args.key c.args.name c.args.options) (λ active. is_known active.state c.args.key) (name_or_empty c.args.name) c.args.vm.now c.admit.new.self c.in-Stopped.error c.in-Stopped.ensures
