use Rattle.std.proofs.Common.{◌+◌, length, refl}
use Rattle.journal_model.specs.Event as model
use Rattle.journal_model.specs.Journal.{entries_of}
use Rattle.schedule_model.specs.declared.event.Event.TheVariants as event
use Rattle.schedule_model.specs.declared.event.Reply.TheVariants as reply
use Rattle.store_calls.specs.AbstractStore.{Adds}
use Rattle.store_calls.specs.Calls.{CompletesCall}
use Rattle.scheduler.proofs.Replying.{replies_place}
use Rattle.scheduler.proofs.Scheduling.{crashes, performs_stored}
use Rattle.scheduler.proofs.scheduler.Scheduler.complete.Goals as goal

pub returns : goal.returns
returns g c =
    let old = c.args.self.now in
    let id = c.args.invocation.now in
    let n = c.args.completion in
    let value = c.args.value in
    rw c.placed.ensures
    (performs_stored g.S.Store g.H.Handler.next_call (event.Result id n value) old c.result.new.self (λ place. reply.Placed place) (CompletesCall id n value)
    (λ told s t it. (replies_place (λ told. CompletesCall id n value told s t) told it, refl)) (λ place. tt) (λ place. refl) (λ why never. never) (λ answer t database all. all)
    c.result_fits.ensures (λ answer. tt) tt
    (crashes g.S.Store g.H.Handler.next_call (event.Result id n value) old (Adds (model.Event.Result id n value)) c.result.new.self
    (λ s t it. (reply.Placed (1 + length (entries_of s.events id)), old.held, ((refl, it), refl))) c.result.ensures.crash)
    c.result.result c.result.ensures.does c.result.ensures.settled c.result.ensures.cause)
