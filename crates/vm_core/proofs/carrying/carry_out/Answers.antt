use Rattle.vm_outcomes.proofs.Running.{ready_stays, unready_stays, ready_open, unready_closed, unready_carried}
use Rattle.vm_core.proofs.carrying.carry_out.Goals as goal

pub returns-in-Ok-clause-failed : goal.returns-in-Ok-clause-failed
returns-in-Ok-clause-failed c =
    ready_stays c.args.vm.now.state.phase c.in-Ok.field-0 c.args.vm.now.state c.carry_out_by_kind.result c.carry_out_by_kind.new.vm.state c.in-Ok.ensures

pub returns-in-Err-clause-driven : goal.returns-in-Err-clause-driven
returns-in-Err-clause-driven c = unready_carried c.args.call c.in-Err.error c.args.vm.now.state c.in-Err.ensures

pub returns-in-Err-clause-failed : goal.returns-in-Err-clause-failed
returns-in-Err-clause-failed c = unready_stays c.args.vm.now.state.phase c.in-Err.error c.args.vm.now.state c.in-Err.ensures

pub returns-in-Ok-clause-closed : goal.returns-in-Ok-clause-closed
returns-in-Ok-clause-closed c =
    ready_open c.args.vm.now.state.phase c.in-Ok.field-0 c.args.vm.now.state c.carry_out_by_kind.result c.carry_out_by_kind.new.vm.state c.in-Ok.ensures

pub returns-in-Err-clause-closed : goal.returns-in-Err-clause-closed
returns-in-Err-clause-closed c = unready_closed c.args.vm.now.state.phase c.in-Err.error c.args.vm.now.state c.in-Err.ensures
