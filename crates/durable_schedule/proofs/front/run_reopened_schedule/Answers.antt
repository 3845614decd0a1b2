use Rattle.std.proofs.lemmas.Result.{IfOk-weaker}
use Rattle.durable_schedule.proofs.Fronting.{keeps, keeps_written, records}
use Rattle.durable_schedule.proofs.front.run_reopened_schedule.Goals as goal

pub returns-clause-faithful : goal.returns-clause-faithful
returns-clause-faithful g c =
    IfOk-weaker c.run_schedule.result _ _
    (λ done applies before stands. records g.H.Handler.next_call c.args.options c.invocations_stand_alone.ensures.stand g.S.Store c.args.events.items c.args.store before stands done.1.items done.0 applies)
    c.run_schedule.ensures.applies

pub returns-clause-crash : goal.returns-clause-crash
returns-clause-crash g c =
    IfOk-weaker c.run_schedule.result _ _
    (λ done lives before stands. keeps g.H.Handler.next_call c.args.options c.invocations_stand_alone.ensures.stand g.S.Store c.args.events.items c.args.store before stands done.1.items done.0.store lives)
    c.run_schedule.ensures.crash

pub returns-clause-written : goal.returns-clause-written
returns-clause-written g c =
    IfOk-weaker c.run_schedule.result _ _
    (λ done left before stands. keeps_written g.H.Handler.next_call c.args.options c.invocations_stand_alone.ensures.stand g.S.Store c.args.events.items c.args.store before stands done.1.items done.0.store left)
    c.run_schedule.ensures.written
