use Rattle.script_lines.proofs.LineFeeds.{one_line, more_lines}
use Rattle.script_lines.proofs.script.first_line.Goals as goal

pub returns-in_default : goal.returns-in_default
returns-in_default c = one_line c.args.script.now c.in_default.ensures.place

pub returns : goal.returns
returns c = more_lines c.args.script.now c.in-Some.place c.in-Some.ensures.place
