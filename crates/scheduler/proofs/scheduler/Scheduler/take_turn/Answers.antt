use Rattle.schedule_model.specs.declared.event.Event.TheVariants as event
use Rattle.scheduler.proofs.Scheduling.{applied}
use Rattle.scheduler.proofs.scheduler.Scheduler.take_turn.Goals as goal

pub returns-clause-does : goal.returns-clause-does
returns-clause-does g c =
    applied g.S.Store g.H.Handler.next_call c.args.self.now c.turn.new.self (event.Turn c.args.invocation.now c.args.attempt c.args.outcome) c.turn.result c.turn.ensures.does

pub returns-clause-spares : goal.returns-clause-spares
returns-clause-spares g c = c.turn.ensures.spares

pub returns-clause-store : goal.returns-clause-store
returns-clause-store g c = c.turn.ensures.spares.quiet
