use Rattle.std.proofs.Common.{refl, sym, ◌∙◌}
use Rattle.schedule_model.specs.declared.event.Event.TheVariants as event
use Rattle.schedule_model.specs.declared.event.Reply.TheVariants as reply
use Rattle.schedule_model.specs.HeldAttempts.{held_of}
use Rattle.schedule_model.specs.Outcomes.{tells_mismatch}
use Rattle.schedule_model.specs.Schedule.{TurnsOne}
use Rattle.store_calls.proofs.Taking.{same_stays}
use Rattle.scheduler.proofs.Holding.{misses, finds, mismatches, unless_mismatch}
use Rattle.scheduler.proofs.Scheduling.{performs_mismatch, performs_quiet, performs_unheld, same_quiet, spares_taken_up}
use Rattle.scheduler.proofs.scheduler.Scheduler.turn.Goals as goal

pub returns-then-tells_mismatch : goal.returns-then-tells_mismatch
returns-then-tells_mismatch g c =
    let old = c.args.self.now in
    let id = c.args.invocation.now in
    let n = c.args.number in
    let outcome = c.args.outcome in
    performs_mismatch g.S.Store g.H.Handler.next_call (event.Turn id n outcome) old (λ never. never) tt tt refl
    (mismatches g.S.Store (TurnsOne g.H.Handler.next_call outcome) (held_of old.held id n) old.held (tells_mismatch outcome) (sym c.tells_mismatch.ensures ∙ c.if-tells_mismatch.true) old.store)

pub returns-in-None : goal.returns-in-None
returns-in-None g c =
    let old = c.args.self.now in
    let id = c.args.invocation.now in
    let n = c.args.number in
    let outcome = c.args.outcome in
    let Turn = TurnsOne g.H.Handler.next_call outcome in
    performs_unheld g.S.Store g.H.Handler.next_call (event.Turn id n outcome) old (λ never. never) tt tt refl
    (unless_mismatch g.S.Store Turn (held_of old.held id n) old.held (tells_mismatch outcome) (sym c.tells_mismatch.ensures ∙ c.if-tells_mismatch.false) old.held _ old.store old.store
    (misses g.S.Store Turn id n old.held c.get_mut.result c.get_mut.ensures.found c.in-None.is old.store))

pub returns-in-Some : goal.returns-in-Some
returns-in-Some g c =
    let old = c.args.self.now in
    let id = c.args.invocation.now in
    let n = c.args.number in
    let outcome = c.args.outcome in
    let Turn = TurnsOne g.H.Handler.next_call outcome in
    performs_quiet g.S.Store g.H.Handler.next_call (event.Turn id n outcome) old (reply.Turned c.turn.result) _ (λ never. never) refl tt tt (spares_taken_up _ _ _ tt) refl (same_quiet g.S.Store old.store) tt
    (unless_mismatch g.S.Store Turn (held_of old.held id n) old.held (tells_mismatch outcome) (sym c.tells_mismatch.ensures ∙ c.if-tells_mismatch.false) _ (reply.Turned c.turn.result) old.store old.store
    (finds g.S.Store Turn id n old.held c.get_mut.result c.get_mut.ensures.found
    c.in-Some.attempt c.in-Some.is old.store old.store c.turn.new.self (reply.Turned c.turn.result)
    (λ clean s is. (s, is, (c.turn.ensures, same_stays s)))))
