use Rattle.std.proofs.Common.{◌≡◌, length}
use Rattle.script_lines.specs.Script.{lines_of_rest}
use Rattle.script_lines.specs.ScriptLines.{lines_left}
use Rattle.script_lines.proofs.script.ScriptLinesIterator.next.Given as goal

abbrev pub invariant-loop-self : goal.invariant-loop-self
invariant-loop-self l = lines_left l.self ≡ lines_left l.initial.self

abbrev pub decreases-loop-self : goal.decreases-loop-self
decreases-loop-self l = length (lines_of_rest l.self.rest)
