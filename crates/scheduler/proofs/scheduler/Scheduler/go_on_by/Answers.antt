use Rattle.scheduler.proofs.Looping.{ends}
use Rattle.scheduler.specs.declared.outcome.Outcome.{Outcome}
use Rattle.scheduler.proofs.scheduler.Scheduler.go_on_by.Goals as goal

pub returns-in-Answered : goal.returns-in-Answered
returns-in-Answered g c e = rw c.in-Answered.is (λ more told last end rest. rest)

pub returns-in-RanBody : goal.returns-in-RanBody
returns-in-RanBody g c e = rw c.in-RanBody.is (c.feed_behind_body.ensures e)

pub returns-in-Waiting : goal.returns-in-Waiting
returns-in-Waiting g c e = rw c.in-Waiting.is (c.wait.ensures e)

pub returns-in-Suspended : goal.returns-in-Suspended
returns-in-Suspended g c e = rw c.in-Suspended.is (λ more. ends g.S.Store g.E.Effects.executes g.H.Handler.next_call Outcome.Suspended c.args.self.now e)

pub returns-in-Ended : goal.returns-in-Ended
returns-in-Ended g c e = rw c.in-Ended.is (λ more. ends g.S.Store g.E.Effects.executes g.H.Handler.next_call Outcome.Ended c.args.self.now e)

pub returns-in-Failed : goal.returns-in-Failed
returns-in-Failed g c e = rw c.in-Failed.is (λ more. ends g.S.Store g.E.Effects.executes g.H.Handler.next_call (Outcome.Failed c.in-Failed.error) c.args.self.now e)
