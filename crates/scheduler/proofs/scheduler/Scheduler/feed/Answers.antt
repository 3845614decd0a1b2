use Rattle.std.proofs.Common.{refl}
use Rattle.schedule_model.specs.declared.event.Event.TheVariants as event
use Rattle.schedule_model.specs.Schedule.{FeedsOne}
use Rattle.scheduler.proofs.Holding.{misses, finds}
use Rattle.scheduler.proofs.Scheduling.{performs_quiet, performs_unheld, same_quiet, spares_taken_up}
use Rattle.scheduler.proofs.scheduler.Scheduler.feed.Goals as goal

pub returns-in-None : goal.returns-in-None
returns-in-None g c =
    let old = c.args.self.now in
    performs_unheld g.S.Store g.H.Handler.next_call (event.Feed c.args.invocation.now c.args.number c.args.count) old (λ never. never) tt tt (same_quiet g.S.Store old.store)
    (misses g.S.Store (FeedsOne c.args.count) c.args.invocation.now c.args.number old.held c.get_mut.result c.get_mut.ensures.found c.in-None.is old.store)

pub returns-in-Some : goal.returns-in-Some
returns-in-Some g c =
    let old = c.args.self.now in
    let fed = c.feed_in in
    performs_quiet g.S.Store g.H.Handler.next_call (event.Feed c.args.invocation.now c.args.number c.args.count) old fed.result _ (λ never. never) refl tt tt (spares_taken_up _ _ _ fed.ensures.held)
    fed.ensures.crash fed.ensures.crash fed.ensures.cause
    (finds g.S.Store (FeedsOne c.args.count) c.args.invocation.now c.args.number old.held c.get_mut.result c.get_mut.ensures.found c.in-Some.attempt c.in-Some.is old.store fed.new.store fed.new.attempt fed.result
    fed.ensures.does)
