use Rattle.std.proofs.Common.{subst, sym}
use Rattle.script_lines.proofs.Writing.{HasTaken, took_more, took_none}
use Rattle.script_lines.proofs.output.write_text.Goals.{in-Ok, in-Err}
use Rattle.script_lines.proofs.output.write_text.Goals as goal

pub loop-preserved : goal.loop-preserved
loop-preserved g c = elim c.match-write.branch [
  | in-Ok w ↦ took_more _ (g.W.Write.contents c.loop.writer) _ c.args.text.now c.loop.written w.in-Ok.count c.match-write.written c.write.result c.loop.invariant c.write.ensures.bound c.write.ensures.bytes w.in-Ok.is w.written-is
  | in-Err w ↦ subst (HasTaken _ _ c.args.text.now) (sym w.written-is) (took_none _ (g.W.Write.contents c.loop.writer) _ c.args.text.now c.loop.written w.in-Err.error c.write.result _ c.loop.invariant c.write.ensures.bytes w.in-Err.is)
]
