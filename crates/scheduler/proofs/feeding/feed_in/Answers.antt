use Rattle.std.proofs.Common.{arith}
use Rattle.journal_store.specs.Causes.{TellsWhy}
use Rattle.schedule_model.specs.Lends.{held_as}
use Rattle.scheduler.proofs.Parts.{cause_behind, goes_further, none_fed, quiet_on, refused_so, refused_taken_up, refused_told, rests_so}
use Rattle.scheduler.proofs.Scheduling.{same_quiet}
use Rattle.scheduler.proofs.feeding.feed_in.Goals as goal

pub loop-len-init : goal.loop-len-init
loop-len-init g c = record {
  within = omega arith;
  fed = λ clean s is. (s, is, none_fed c.args.count (held_as c.args.invocation.now c.args.number c.args.attempt.now) s);
  quiet = same_quiet g.S.Store c.args.store.now;
}

pub loop-len-preserved : goal.loop-len-preserved
loop-len-preserved g c =
    let one = held_as c.args.invocation.now c.args.number c.args.attempt.now in
    let before = c.loop-len.invariant in
    let few = c.in-Ok.ensures.few in
    let within = before.within in
    record {
      within = omega (arith, few, within);
      fed = goes_further g.S.Store c.args.count one c.args.store.now c.loop-len.store c.feed_part.new.store c.loop-len.fed c.loop-len.attempt c.feed_part.new.attempt before.fed c.feed_part.ensures.crash
          c.in-Ok.len c.in-Ok.ensures.does c.is_last.result c.is_last.ensures c.if-is_last.false;
      quiet = quiet_on g.S.Store c.args.store.now c.loop-len.store c.feed_part.new.store before.quiet c.feed_part.ensures.crash;
    }

pub returns-then-is_last-clause-does : goal.returns-then-is_last-clause-does
returns-then-is_last-clause-does g c =
    rests_so g.S.Store c.args.count (held_as c.args.invocation.now c.args.number c.args.attempt.now) c.args.store.now c.loop-len.store c.feed_part.new.store c.loop-len.fed c.loop-len.attempt
    c.feed_part.new.attempt c.loop-len.invariant.fed c.feed_part.ensures.crash c.in-Ok.len c.in-Ok.ensures.does c.is_last.result c.is_last.ensures c.if-is_last.true

pub returns-then-is_last-clause-crash : goal.returns-then-is_last-clause-crash
returns-then-is_last-clause-crash g c = quiet_on g.S.Store c.args.store.now c.loop-len.store c.feed_part.new.store c.loop-len.invariant.quiet c.feed_part.ensures.crash

pub returns-in-Err-clause-does : goal.returns-in-Err-clause-does
returns-in-Err-clause-does g c =
    rw c.stopped.ensures
    (refused_so g.S.Store c.args.count (held_as c.args.invocation.now c.args.number c.args.attempt.now) c.args.store.now c.loop-len.store c.feed_part.new.store c.loop-len.fed c.loop-len.attempt
    c.feed_part.new.attempt c.loop-len.invariant.fed c.feed_part.ensures.crash c.in-Err.refusal c.in-Err.ensures.does)

pub returns-in-Err-clause-held : goal.returns-in-Err-clause-held
returns-in-Err-clause-held g c = rw c.stopped.ensures (refused_taken_up c.loop-len.fed c.in-Err.refusal)

pub returns-in-Err-clause-cause : goal.returns-in-Err-clause-cause
returns-in-Err-clause-cause g c =
    rw c.stopped.ensures
    (refused_told c.loop-len.fed c.in-Err.refusal (TellsWhy g.S.Store c.args.store.now c.feed_part.new.store)
    (cause_behind g.S.Store c.args.store.now c.loop-len.store c.feed_part.new.store c.loop-len.invariant.quiet c.feed_part.ensures.crash c.in-Err.refusal c.in-Err.ensures.cause))

pub returns-in-Err-clause-crash : goal.returns-in-Err-clause-crash
returns-in-Err-clause-crash g c = quiet_on g.S.Store c.args.store.now c.loop-len.store c.feed_part.new.store c.loop-len.invariant.quiet c.feed_part.ensures.crash
