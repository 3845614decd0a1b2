use Rattle.scheduler.proofs.Begun.{begins}
use Rattle.scheduler.proofs.scheduler.Scheduler.begin.Goals as goal

pub returns : goal.returns
returns g c =
    let did = c.begin_numbered in
    rw c.begun_reply.ensures
    (begins g.S.Store g.H.Handler.next_call c.args.invocation c.args.handler c.args.now c.args.self.now did.new.self did.result did.ensures.does did.ensures.options did.ensures.settled did.ensures.moment
    did.ensures.cause did.ensures.crash)
