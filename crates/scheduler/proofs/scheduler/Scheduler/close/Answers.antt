use Rattle.std.proofs.Common.{refl}
use Rattle.schedule_model.specs.declared.event.Event.TheVariants as event
use Rattle.schedule_model.specs.Schedule.{ClosesOne}
use Rattle.scheduler.proofs.Holding.{misses, finds}
use Rattle.scheduler.proofs.Scheduling.{performs_quiet, performs_unheld, same_quiet, spares_taken_up}
use Rattle.scheduler.proofs.scheduler.Scheduler.close.Goals as goal

pub returns-in_default : goal.returns-in_default
returns-in_default g c =
    let old = c.args.self.now in
    performs_unheld g.S.Store g.H.Handler.next_call (event.Close c.args.invocation.now c.args.number) old (λ never. never) tt tt (same_quiet g.S.Store old.store)
    (misses g.S.Store ClosesOne c.args.invocation.now c.args.number old.held c.get_mut.result c.get_mut.ensures.found c.in_default.is old.store)

pub returns-in-Ok : goal.returns-in-Ok
returns-in-Ok g c =
    let old = c.args.self.now in
    performs_quiet g.S.Store g.H.Handler.next_call (event.Close c.args.invocation.now c.args.number) old _ _ (λ never. never) refl tt tt (spares_taken_up _ _ _ tt)
    c.close_input.ensures.crash c.close_input.ensures.crash tt
    (finds g.S.Store ClosesOne c.args.invocation.now c.args.number old.held c.get_mut.result c.get_mut.ensures.found c.in-Some.attempt c.in-Some.is old.store c.close_input.new.self c.close_input-in-Ok.new.self _
    (λ clean s is. let it = c.in-Ok.ensures.does clean s is in (it.0, it.1, (it.2, c.close_input-in-Ok.ensures))))

pub returns-in-Err : goal.returns-in-Err
returns-in-Err g c =
    let old = c.args.self.now in
    let attempt = c.in-Some.attempt in
    performs_quiet g.S.Store g.H.Handler.next_call (event.Close c.args.invocation.now c.args.number) old _ _ (λ never. never) refl tt tt (spares_taken_up _ _ _ tt)
    c.close_input.ensures.crash c.close_input.ensures.crash c.in-Err.ensures.cause
    (finds g.S.Store ClosesOne c.args.invocation.now c.args.number old.held c.get_mut.result c.get_mut.ensures.found attempt c.in-Some.is old.store c.close_input.new.self attempt.now _
    (λ clean s is. let it = c.in-Err.ensures.does clean s is in (it.0, it.1, (it.2, refl))))
