use Rattle.scheduler.proofs.Scheduling.{applied, applied_lasting}
use Rattle.scheduler.proofs.scheduler.Scheduler.apply.Goals as goal

pub returns-clause-does : goal.returns-clause-does
returns-clause-does g c = applied g.S.Store g.H.Handler.next_call c.args.self.now c.perform.new.self c.args.event c.perform.result c.perform.ensures.does

pub returns-clause-settled : goal.returns-clause-settled
returns-clause-settled g c written = applied_lasting g.S.Store g.H.Handler.next_call c.args.self.now c.perform.new.self c.args.event c.perform.result (c.perform.ensures.lasts written)
