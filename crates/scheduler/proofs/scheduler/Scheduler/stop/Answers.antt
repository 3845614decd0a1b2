use Rattle.std.proofs.Common.{refl}
use Rattle.schedule_model.specs.declared.event.Event.TheVariants as event
use Rattle.schedule_model.specs.declared.event.Reply.TheVariants as reply
use Rattle.schedule_model.specs.Schedule.{StopsOne}
use Rattle.store_calls.specs.Calls.{Stops}
use Rattle.journal_store.specs.Causes.{TellsWhy}
use Rattle.scheduler.specs.SchedulerCalls.{reply_to}
use Rattle.scheduler.proofs.Holding.{misses, finds}
use Rattle.scheduler.proofs.Replying.{is_done, replies_done, told_refused, told_taken_up}
use Rattle.scheduler.proofs.Scheduling.{performs_quiet, performs_unheld, same_quiet, spares_taken_up}
use Rattle.scheduler.proofs.scheduler.Scheduler.stop.Goals as goal

pub returns-in-None : goal.returns-in-None
returns-in-None g c =
    let old = c.args.self.now in
    performs_unheld g.S.Store g.H.Handler.next_call (event.Stop c.args.invocation.now c.args.number) old (λ never. never) tt (λ live. tt) (same_quiet g.S.Store old.store)
    (misses g.S.Store StopsOne c.args.invocation.now c.args.number old.held c.get_mut.result c.get_mut.ensures.found c.in-None.is old.store)

pub returns-in-Some : goal.returns-in-Some
returns-in-Some g c =
    let old = c.args.self.now in
    let id = c.args.invocation.now in
    let n = c.args.number in
    let told = c.stop.result in
    rw c.done.ensures
    (performs_quiet g.S.Store g.H.Handler.next_call (event.Stop id n) old (reply_to (λ _. reply.Done) told) _ (λ never. never) refl tt (λ live. is_done told (c.stop.ensures.live live))
    (spares_taken_up _ _ _ (told_taken_up told))
    c.stop.ensures.crash c.stop.ensures.crash
    (told_refused (λ _. reply.Done) (TellsWhy g.S.Store old.store c.stop.new.self) (λ done. refl) told c.stop.ensures.cause)
    (finds g.S.Store StopsOne id n old.held c.get_mut.result c.get_mut.ensures.found c.in-Some.field-0 c.in-Some.is old.store c.stop.new.self c.in-Some.field-0.now (reply_to (λ _. reply.Done) told)
    (λ clean s is. let it = c.stop.ensures.does clean s is in (it.0, it.1, (replies_done (λ told. Stops id n told s it.0) told it.2, refl)))))
