use Rattle.std.proofs.Common.{refl}
use Rattle.journal_model.specs.Event as model
use Rattle.journal_model.specs.Attempt.{completions_of_tick}
use Rattle.schedule_model.specs.declared.event.Event.TheVariants as event
use Rattle.schedule_model.specs.declared.event.Reply.TheVariants as reply
use Rattle.store_calls.specs.AbstractStore.{Adds}
use Rattle.store_calls.specs.Calls.{Ticks}
use Rattle.scheduler.proofs.Replying.{replies_count}
use Rattle.scheduler.proofs.Scheduling.{crashes, performs_stored}
use Rattle.scheduler.proofs.scheduler.Scheduler.tick.Goals as goal

pub returns : goal.returns
returns g c =
    let old = c.args.self.now in
    let now = c.args.now in
    rw c.ticked.ensures
    (performs_stored g.S.Store g.H.Handler.next_call (event.Tick now) old c.tick.new.self (λ sleeps. reply.Ticked sleeps) (Ticks now)
    (λ told s t it. (replies_count (λ told. Ticks now told s t) told it, refl)) (λ sleeps. tt) (λ sleeps. refl) (λ why never. never) (λ answer t database all. all) tt (λ answer. tt) tt
    (crashes g.S.Store g.H.Handler.next_call (event.Tick now) old (Adds (model.Event.Tick now)) c.tick.new.self
    (λ s t it. (reply.Ticked (completions_of_tick s.events now), old.held, ((refl, it), refl))) c.tick.ensures.crash)
    c.tick.result c.tick.ensures.does c.tick.ensures.settled c.tick.ensures.cause)
