use Rattle.journal_model.specs.Future.{tree_of}
use Rattle.vm_progress.proofs.Machines.{awaited_by}
use Rattle.vm_progress.proofs.awaiting.await_admitted.Goals as goal

pub returns : goal.returns
returns c =
    awaited_by (tree_of c.args.future) c.args.vm.now c.checks_off-ignoring.result c.await_future-awaited.result c.await_future-awaited.new.active c.go_on.result c.go_on.new.vm
    c.checks_off-ignoring.ensures c.await_future-awaited.ensures.held c.await_future-awaited.ensures.awaits c.go_on.ensures
