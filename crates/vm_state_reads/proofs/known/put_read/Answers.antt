use Rattle.vm_state_reads.proofs.Answering.{read_answers, read_fails}
use Rattle.vm_state_reads.proofs.known.put_read.Goals as goal

pub returns-in-Ok-clause-put : goal.returns-in-Ok-clause-put
returns-in-Ok-clause-put g c =
    λ checks_off given m call request old h one ignores has.
    read_answers given m call request one c.args.handle old has.begun has.begins checks_off c.args.ignoring ignores c.args.active.now has.results has.others c.put.new.self (c.in-Ok.ensures.put request m.written h)

pub returns-in-Err-clause-put : goal.returns-in-Err-clause-put
returns-in-Err-clause-put g c =
    λ checks_off given m call request old h one ignores has.
    read_fails given m call request one c.args.handle old has.begun has.begins checks_off c.args.ignoring ignores c.args.active.now has.results has.others c.put.new.self c.in-Err.error (c.in-Err.ensures.put request m.written h)

pub returns-in-Err-clause-found : goal.returns-in-Err-clause-found
returns-in-Err-clause-found g c = λ ty typed. c.in-Err.ensures.found ty typed
