use Rattle.vm_awaits.specs.Views.{results_of}
use Rattle.vm_machine.proofs.AcknowledgementReceipt.{told_takes}
use Rattle.vm_machine.proofs.answers.acknowledge.Goals as goal

pub returns-in-Ok : goal.returns-in-Ok
returns-in-Ok c =
    told_takes c.args.told c.in-Ok.number c.args.runs.now c.acknowledge-kept.new.self c.acknowledge-kept.result (results_of c.args.results.now) (results_of c.outcome_comes.new.results) c.outcome_comes.result
    c.in-Ok.is c.acknowledge-kept.ensures.outcome c.acknowledge-kept.ensures.runs c.acknowledge-kept.ensures.bodies c.outcome_comes.ensures
