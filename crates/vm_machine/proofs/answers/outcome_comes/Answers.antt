use Rattle.vm_awaits.specs.Views.{results_of}
use Rattle.vm_machine.proofs.AcknowledgementReceipt.{queued_comes, lost_comes}
use Rattle.vm_machine.proofs.answers.outcome_comes.Goals as goal

pub returns-in-Ok : goal.returns-in-Ok
returns-in-Ok c =
    queued_comes c.args.number c.args.kept c.in-Some.value c.recorded.result (results_of c.args.results.now) (results_of c.enqueue-queued.new.self) c.in-Some.is c.recorded.ensures c.in-Ok.ensures.ok

pub returns-in-Err : goal.returns-in-Err
returns-in-Err c = lost_comes c.args.number c.args.kept c.in-Some.value (results_of c.args.results.now) (results_of c.enqueue-queued.new.self) c.in-Some.is c.in-Err.ensures.err
