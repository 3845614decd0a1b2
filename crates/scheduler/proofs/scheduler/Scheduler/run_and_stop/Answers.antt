use Rattle.scheduler.specs.Loop.{IsFed}
use Rattle.scheduler.proofs.Looping.{stopped}
use Rattle.scheduler.proofs.scheduler.Scheduler.run_and_stop.Goals as goal

pub returns : goal.returns
returns g c =
    stopped g.S.Store g.E.Effects.executes g.H.Handler.next_call c.args.id.now c.args.attempt (IsFed c.args.id.now c.args.attempt c.args.most) c.stop.result c.run_attempt-told.result c.args.self.now
    c.run_attempt-told.new.self c.stop.new.self c.args.effects.now c.run_attempt-told.new.effects c.run_attempt-told.ensures c.stop.ensures
