use Rattle.std.proofs.Common.{rules, arith, ◌∙◌, subst, sym, ◌≡◌, refl, true, false, Bool}
use Rattle.journal_store.specs.JoinedFrames.{JoinsNext}
use Rattle.journal_store.proofs.JoinedFrames.{asks_nothing, asks_on, further_ready, none_ready, same_ready}
use Rattle.journal_store.proofs.joined.join_frames.Goals as goal

pub loop-frames-init : goal.loop-frames-init
loop-frames-init g c = record {
  within = omega (arith, c.none_joined-frames.ensures.len);
  ready =
      none_ready g.S.Store c.args.id.now c.args.attempt.now c.none_joined-frames.result c.args.tables.now c.none_joined-frames.ensures.len c.none_joined-frames.ensures.writes (c.none_joined-frames.ensures.row ∙ c.in_ok-row.ensures)
      c.none_joined-frames.ensures.replies c.none_joined-frames.ensures.going;
  looks = asks_nothing g.S.Store c.args.tables.now;
}

pub loop-frames-preserved : goal.loop-frames-preserved
loop-frames-preserved g c = record {
  within = c.in-Ok-true.ensures.within;
  ready =
      further_ready g.S.Store c.args.id.now c.args.attempt.now c.loop-frames.frames c.join_next.new.frames c.args.tables.now c.loop-frames.tables c.join_next.new.tables c.loop-frames.invariant.ready c.loop-frames.invariant.looks
      c.join_next.ensures.looks
      (subst (λ (joined : Bool). JoinsNext g.S.Store c.args.id.now c.args.attempt.now joined c.loop-frames.frames c.join_next.new.frames c.loop-frames.tables c.join_next.new.tables) {y = true} (search rules) c.in-Ok-true.ensures.joins);
  looks = asks_on g.S.Store c.args.tables.now c.loop-frames.tables c.join_next.new.tables c.loop-frames.invariant.looks c.join_next.ensures.looks;
}

pub returns-in-Ok-false-clause-ready : goal.returns-in-Ok-false-clause-ready
returns-in-Ok-false-clause-ready g c =
    same_ready g.S.Store c.args.id.now c.args.attempt.now c.loop-frames.frames c.join_next.new.frames c.args.tables.now c.loop-frames.tables c.join_next.new.tables c.loop-frames.invariant.ready c.join_next.ensures.looks
    (subst (λ (joined : Bool). JoinsNext g.S.Store c.args.id.now c.args.attempt.now joined c.loop-frames.frames c.join_next.new.frames c.loop-frames.tables c.join_next.new.tables) {y = false} (search rules) c.in-Ok-false.ensures.joins)

pub returns-in-Ok-false-clause-looks : goal.returns-in-Ok-false-clause-looks
returns-in-Ok-false-clause-looks g c = asks_on g.S.Store c.args.tables.now c.loop-frames.tables c.join_next.new.tables c.loop-frames.invariant.looks c.join_next.ensures.looks

pub returns-in-Err-clause-looks : goal.returns-in-Err-clause-looks
returns-in-Err-clause-looks g c = asks_on g.S.Store c.args.tables.now c.loop-frames.tables c.join_next.new.tables c.loop-frames.invariant.looks c.join_next.ensures.looks

pub returns-in_err-row-clause-looks : goal.returns-in_err-row-clause-looks
returns-in_err-row-clause-looks g c = asks_nothing g.S.Store c.args.tables.now
