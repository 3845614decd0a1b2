use Rattle.std.proofs.Common.{refl}
use Rattle.journal_model.specs.Event as model
use Rattle.schedule_model.specs.declared.event.Event.TheVariants as event
use Rattle.schedule_model.specs.declared.event.Reply.TheVariants as reply
use Rattle.store_calls.specs.AbstractStore.{Adds}
use Rattle.store_calls.specs.Calls.{Invokes}
use Rattle.scheduler.proofs.Replying.{replies_done}
use Rattle.scheduler.proofs.Scheduling.{crashes, performs_stored}
use Rattle.scheduler.proofs.scheduler.Scheduler.invoke.Goals as goal

pub returns : goal.returns
returns g c =
    let old = c.args.self.now in
    let new = c.args.new in
    let fit = c.invocation_fits.ensures in
    rw c.done.ensures
    (performs_stored g.S.Store g.H.Handler.next_call (event.Invoke new) old c.invoke.new.self (λ _. reply.Done) (Invokes new)
    (λ told s t it. (replies_done (λ told. Invokes new told s t) told it, refl)) (λ done. tt) (λ done. refl) (λ why never. never) (λ answer t database all. all)
    (record { id = fit.id; object = fit.object; seed = fit.seed; input = fit.input }) (λ answer. tt) tt
    (crashes g.S.Store g.H.Handler.next_call (event.Invoke new) old (Adds (model.Event.Invoke new)) c.invoke.new.self (λ s t it. (reply.Done, old.held, (it, refl))) c.invoke.ensures.crash)
    c.invoke.result c.invoke.ensures.does c.invoke.ensures.settled c.invoke.ensures.cause)
