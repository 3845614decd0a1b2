use Rattle.script_lines.proofs.Writing.{HasTaken}
use Rattle.script_lines.proofs.output.write_text.Given as goal

abbrev pub invariant-loop : goal.invariant-loop
invariant-loop g l = HasTaken (g.W.Write.contents l.initial.writer) (g.W.Write.contents l.writer) l.text l.written
