use Rattle.std.proofs.Common.{◌∙◌, subst, List}
use Rattle.store_tables.specs.declared.row.Write.{Write}
use Rattle.store_live.specs.Rows.{AreNoted}
use Rattle.store_live.proofs.Noting.{all_yielded, noted_behind, noted_nothing}
use Rattle.store_live.proofs.attempts.LiveAttempts.note_written.Goals as goal

pub loop-write-init : goal.loop-write-init
loop-write-init c = noted_nothing c.args.self.now.attempts

pub loop-write-preserved : goal.loop-write-preserved
loop-write-preserved c =
    noted_behind c.loop-write.yielded c.in-Some.write c.args.self.now.attempts c.loop-write.self.attempts c.note_one.new.self.attempts c.loop-write.invariant c.note_one.ensures

pub returns : goal.returns
returns c =
    let h = c.into_iter-write-iterator.ensures.into_iter_gives in
    let all = all_yielded c.into_iter-write-iterator.result c.args.writes.items h.0 (h.1 ∙ c.args.writes.ok.0) c.loop-write.yielded c.loop-write.write-iterator c.loop-write.yielded_by c.next.result c.next.new.self c.in-None.is
    c.next.ensures.steps in
    subst (λ (writes : List Write). AreNoted writes c.args.self.now.attempts c.loop-write.self.attempts) all c.loop-write.invariant
