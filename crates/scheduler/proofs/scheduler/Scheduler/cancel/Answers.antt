use Rattle.std.proofs.Common.{◌+◌, length, refl}
use Rattle.journal_model.specs.Event as model
use Rattle.journal_model.specs.Journal.{entries_of}
use Rattle.schedule_model.specs.declared.event.Event.TheVariants as event
use Rattle.schedule_model.specs.declared.event.Reply.TheVariants as reply
use Rattle.store_calls.specs.AbstractStore.{Adds}
use Rattle.store_calls.specs.Calls.{Cancels}
use Rattle.scheduler.proofs.Replying.{replies_place}
use Rattle.scheduler.proofs.Scheduling.{crashes, performs_stored}
use Rattle.scheduler.proofs.scheduler.Scheduler.cancel.Goals as goal

pub returns : goal.returns
returns g c =
    let old = c.args.self.now in
    let id = c.args.invocation.now in
    rw c.placed.ensures
    (performs_stored g.S.Store g.H.Handler.next_call (event.Cancel id) old c.cancel.new.self (λ place. reply.Placed place) (Cancels id)
    (λ told s t it. (replies_place (λ told. Cancels id told s t) told it, refl)) (λ place. tt) (λ place. refl) (λ why never. never) (λ answer t database all. all)
    tt (λ answer. tt) tt
    (crashes g.S.Store g.H.Handler.next_call (event.Cancel id) old (Adds (model.Event.Cancel id)) c.cancel.new.self
    (λ s t it. (reply.Placed (1 + length (entries_of s.events id)), old.held, ((refl, it), refl))) c.cancel.ensures.crash)
    c.cancel.result c.cancel.ensures.does c.cancel.ensures.settled c.cancel.ensures.cause)
