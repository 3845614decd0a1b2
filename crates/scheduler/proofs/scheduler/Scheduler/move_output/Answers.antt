use Rattle.std.proofs.Common.{refl}
use Rattle.schedule_model.specs.declared.event.Event.TheVariants as event
use Rattle.schedule_model.specs.Schedule.{MovesOne}
use Rattle.scheduler.specs.SchedulerCalls.{refusal_told}
use Rattle.scheduler.proofs.Holding.{misses, finds, finds_cause, finds_lasting, finds_crashed}
use Rattle.scheduler.proofs.Scheduling.{performs_unheld, spares_all, spares_taken_up}
use Rattle.scheduler.proofs.scheduler.Scheduler.move_output.Goals as goal

pub returns-in-None : goal.returns-in-None
returns-in-None g c =
    let old = c.args.self.now in
    performs_unheld g.S.Store g.H.Handler.next_call (event.Move c.args.invocation.now c.args.number c.args.count) old (λ never. never) tt (λ live. tt) tt
    (misses g.S.Store (MovesOne c.args.count) c.args.invocation.now c.args.number old.held c.get_mut.result c.get_mut.ensures.found c.in-None.is old.store)

pub returns-in-Some : goal.returns-in-Some
returns-in-Some g c =
    let old = c.args.self.now in
    let id = c.args.invocation.now in
    let n = c.args.number in
    let Moves = MovesOne c.args.count in
    let attempt = c.in-Some.attempt in
    let taken = c.move_output in
    let there = c.get_mut in
    record {
      does = finds g.S.Store Moves id n old.held there.result there.ensures.found attempt c.in-Some.is old.store taken.new.store taken.new.attempt taken.result taken.ensures.does;
      lasts = λ some. finds_lasting g.S.Store Moves id n old.held there.result there.ensures.found attempt c.in-Some.is old.store taken.new.store taken.new.attempt taken.result (taken.ensures.settled some);
      options = refl {a = old.options};
      fits = tt;
      live = taken.ensures.live;
      spares = spares_all _ _ _ _ _ (spares_taken_up _ _ _ taken.ensures.held) tt;
      cause = finds_cause g.S.Store Moves id n old.held there.result there.ensures.found attempt c.in-Some.is old.store taken.new.store c.args.count taken.result (refusal_told taken.result) taken.ensures.cause;
      crash = finds_crashed g.S.Store Moves id n old.held there.result there.ensures.found attempt c.in-Some.is old.store taken.new.store taken.ensures.crash;
    }
