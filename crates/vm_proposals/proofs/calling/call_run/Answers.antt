use Rattle.vm_proposals.proofs.Called.{calls_made_run, calls_elsewhere_run, calls_stopped_run}
use Rattle.vm_proposals.proofs.calling.call_run.Goals as goal

pub returns-in-Admitted : goal.returns-in-Admitted
returns-in-Admitted c =
    calls_made_run c.args.name c.checks_off-ignoring.result c.admit.new.self c.run-made.result c.run-made.new.active c.run-made.new.runs c.settle.result c.settle.new.self c.checks_off-ignoring.ensures c.run-made.ensures.made
    c.run-made.ensures.keeps c.run-made.ensures.told c.run-made.ensures.spent c.run-made.ensures.found c.settle.ensures c.args.vm.now c.in-Admitted.ensures

pub returns-in-Elsewhere : goal.returns-in-Elsewhere
returns-in-Elsewhere c = calls_elsewhere_run c.args.name c.args.vm.now c.admit.new.self c.fail_elsewhere.result c.fail_elsewhere.new.self c.in-Elsewhere.ensures c.fail_elsewhere.ensures

pub returns-in-Stopped : goal.returns-in-Stopped
returns-in-Stopped c = calls_stopped_run c.args.name c.args.vm.now c.admit.new.self c.in-Stopped.error c.in-Stopped.ensures
