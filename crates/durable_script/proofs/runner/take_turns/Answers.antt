use Rattle.std.proofs.Common.{refl, arith}
use Rattle.durable_script.specs.Line.{TurnsGoOn}
use Rattle.durable_script.specs.SchedulerChanges.{Nowhere}
use Rattle.durable_script.proofs.SchedulerChanges.{reaches_none}
use Rattle.durable_script.proofs.Turning.{turned_last, turned_more}
use Rattle.durable_script.proofs.runner.take_turns.Goals.{then-taken-count-via-then-taken-count, then-taken-count-via-else-taken-count+then-not-goes_on}
use Rattle.durable_script.proofs.runner.take_turns.Goals as goal

pub loop-taken-init : goal.loop-taken-init
loop-taken-init g c = record {
  before = 0;
  taken = refl;
  within = c.requires;
  gone_on = reaches_none g.S.Store Nowhere (TurnsGoOn c.args.id.now c.args.attempt c.args.outcome.now 0) c.args.scheduler.now (λ s. refl);
}

pub returns-then-taken-count : goal.returns-then-taken-count
returns-then-taken-count g c =
    let inv = c.loop-taken.invariant in
    let turn = c.take_turn-reply in
    turned_last g.S.Store c.args.id.now c.args.attempt c.args.outcome.now c.args.scheduler.now c.loop-taken.scheduler turn.new.scheduler inv.before inv.gone_on turn.result turn.ensures
    c.args.count c.loop-taken.taken inv.taken inv.within
    (λ yes. elim c.then-taken-count.branch [
      | then-taken-count-via-then-taken-count w ↦ w.if-taken-count.true
      | then-taken-count-via-else-taken-count+then-not-goes_on w ↦ absurd (cc (w.goes_on.ensures, w.if-not-goes_on.true, yes))
    ])

pub loop-taken-preserved : goal.loop-taken-preserved
loop-taken-preserved g c =
    let inv = c.loop-taken.invariant in
    let turn = c.take_turn-reply in
    record {
      before = c.loop-taken.taken;
      taken = refl;
      within = omega arith;
      gone_on = turned_more g.S.Store c.args.id.now c.args.attempt c.args.outcome.now c.args.scheduler.now c.loop-taken.scheduler turn.new.scheduler inv.before inv.gone_on turn.result turn.ensures
          c.loop-taken.taken inv.taken (cc (c.goes_on.ensures, c.if-not-goes_on.false));
    }
