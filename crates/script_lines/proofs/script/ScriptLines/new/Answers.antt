use Rattle.std.proofs.Common.{arith}
use Rattle.script_lines.proofs.LineFeeds.{lines_are_few}
use Rattle.script_lines.proofs.script.ScriptLines.new.Goals as goal

pub invariant_of-result : goal.invariant_of-result
invariant_of-result c = record { counted = omega (arith, lines_are_few c.args.script.now) }
