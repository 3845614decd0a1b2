use Rattle.std.proofs.Common.{not}
use Rattle.journal_model.specs.Run.{name_or_empty}
use Rattle.journal_model.specs.declared.call.Call.{Call}
use Rattle.vm_progress.specs.StateReadEffects.{keys_read}
use Rattle.vm_progress.proofs.Made.{read_made, read_elsewhere, read_stopped}
use Rattle.vm_progress.proofs.reading.sys_state_get_keys.Goals as goal

pub returns-in-Admitted : goal.returns-in-Admitted
returns-in-Admitted c =
    read_made keys_read (Call.StateGetKeys c.args.name) (λ active. not active.state.is_partial) (name_or_empty c.args.name) c.args.vm.now c.admit.new.self c.checks_off-ignoring.result
    c.state_get_keys-made.result c.state_get_keys-made.new.active c.settle_read.result c.settle_read.new.vm c.in-Admitted.ensures c.checks_off-ignoring.ensures c.state_get_keys-made.ensures.made
    c.state_get_keys-made.ensures.told c.state_get_keys-made.ensures.spent c.state_get_keys-made.ensures.found c.settle_read.ensures

pub returns-in-Elsewhere : goal.returns-in-Elsewhere
returns-in-Elsewhere c =
    read_elsewhere keys_read (Call.StateGetKeys c.args.name) (λ active. not active.state.is_partial) (name_or_empty c.args.name) c.args.vm.now c.admit.new.self c.fail_next.result c.fail_next.new.vm
    c.in-Elsewhere.ensures c.fail_next.ensures

pub returns-in-Stopped : goal.returns-in-Stopped
returns-in-Stopped c =
    read_stopped keys_read (Call.StateGetKeys c.args.name) (λ active. not active.state.is_partial) (name_or_empty c.args.name) c.args.vm.now c.admit.new.self c.in-Stopped.error c.in-Stopped.ensures
