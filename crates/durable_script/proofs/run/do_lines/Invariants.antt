use Rattle.std.proofs.Common.{List}
use Rattle.std.specs.Io.KnownBytes.{Appends}
use Rattle.script_lines.specs.Script.{numbered_lines}
use Rattle.script_lines.specs.ScriptLines.{lines_left}
use Rattle.durable_script.specs.Run.{DoneLine, texts_of, HasDone, HasRun}
use Rattle.durable_script.proofs.run.do_lines.Given as goal

abbrev pub invariant-loop-line : goal.invariant-loop-line
invariant-loop-line g l = record {
  can : (goal.iterator-loop-line g).can_next l.line-iterator;
  finite : (goal.iterator-loop-line g).is_finite l.line-iterator;
  done : List DoneLine;
  has_done : HasDone (numbered_lines l.script) (λ done. HasRun g.S.Store done l.fn.runner.scheduler l.runner.scheduler) done (lines_left l.line-iterator);
  written : Appends (g.W.Write.contents l.fn.writer) (g.W.Write.contents l.writer) (texts_of done);
}
