use Rattle.scheduler.specs.Loop.{IsAttempt}
use Rattle.scheduler.proofs.Alone.{goes_on}
use Rattle.scheduler.proofs.scheduler.Scheduler.go_on.Goals as goal

pub returns : goal.returns
returns g c =
    let taken = c.take_held-others in
    let gone = c.go_alone-told in
    goes_on g.S.Store g.E.Effects.executes g.H.Handler.next_call c.args.id.now (IsAttempt c.args.id.now c.args.handler c.args.now) gone.result c.args.self.now taken.new.self gone.new.self c.put_held.new.self
    c.args.effects.now gone.new.effects taken.result taken.ensures.held taken.ensures.others gone.ensures c.put_held.ensures
